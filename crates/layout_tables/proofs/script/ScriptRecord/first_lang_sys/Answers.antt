use Rattle.std.proofs.Common.{◌≡◌, ◌∙◌, List, Option, Some, ap, rules, sym}
use Rattle.std.specs.Option.{option_copied, option_map}
use Rattle.layout_tables.specs.Layout.{LangSysTable, LangSysEntry, lang_sys_with}
use Rattle.layout_tables.specs.Choice.{first_found}
use Rattle.layout_tables.proofs.script.ScriptRecord.first_lang_sys.Goals as goal

pub returns : goal.returns
returns c =
    let same : c.deref.result.now ≡ c.args.self.now.lang_systems = search rules in
    let found = c.find_first.ensures ∙ ap (λ (systems : List LangSysEntry). first_found (λ tag. lang_sys_with tag systems) c.args.tags.now) same in
    let one : Some c.in_ok-record.record.now ≡ option_copied c.find_first.result = ap option_copied (sym c.in_ok-record.was) in
    ap (λ (s : LangSysTable). Some s) c.lang_sys.ensures ∙ ap (λ (o : Option LangSysEntry). option_map (λ s. s.lang_sys) o) (one ∙ found)
