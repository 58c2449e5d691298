use Rattle.std.proofs.Common.{sym}
use Rattle.shell_face_print.proofs.scripts.LangSysToJson.write.Goals as goal

-- the features and the required one are those of the language system
pub returns : goal.returns
returns c = rw (sym c.features.ensures) (rw (sym c.required_feature.ensures) c.write_object_last1.ensures)
