use Rattle.script_khmer.proofs.KhmerWalk.{forms_do}
use Rattle.script_khmer.proofs.runs.move_forms.Goals as goal

pub returns : goal.returns
returns c =
    let a = c.args in
    let r = c.requires in
    forms_do a.masks.now a.start a.end a.index a.to a.buffer.now c.add_mask.new.buffer c.mask_run.new.buffer c.move_run.new.buffer r.two r.there r.within c.add_mask.ensures c.mask_run.ensures c.move_run.ensures
