use Rattle.std.proofs.Common.{rules}
use Rattle.buffer_glyphs.specs.Items.{item_of}
use Rattle.buffer_glyphs.specs.PropertyWords.{is_default_ignorable}
use Rattle.shape_glyphs.proofs.Ended.{deleted_done}
use Rattle.shape_glyphs.proofs.ignorables.delete_ignorables.Goals as goal

pub returns : goal.returns
returns c =
    let calls = c.delete_glyphs_inplace.ensures in
    deleted_done c.args.buffer.now c.delete_glyphs_inplace.new.self (λ g. is_default_ignorable (item_of g))
    (calls.deleted (λ g. is_default_ignorable (item_of g)) (λ g b r. search rules))
    (calls.items is_default_ignorable (λ g b r. search rules))
    (calls.positions is_default_ignorable (λ g b r. search rules))
    (calls.origins is_default_ignorable (λ g b r. search rules))
    c.requires
