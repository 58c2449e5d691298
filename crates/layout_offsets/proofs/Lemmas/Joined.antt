-- As many positions after a join as before.
use Rattle.std.proofs.Common.{ℕ, ℤ, ◌≡◌, Bool, true, false, if◌then◌else◌, List, length, set, refl, ◌∙◌}
use Rattle.std.proofs.lemmas.List.{length-set}
use Rattle.buffer_glyphs.specs.Items.{Position}
use Rattle.buffer_common.specs.declared.direction.Direction.{Direction}
use Rattle.buffer_common.specs.Direction.{is_forward, is_horizontal}
use Rattle.layout_tables.specs.declared.value.Anchor.{Anchor}
use Rattle.layout_offsets.specs.Links.{parent, position_at, is_near}
use Rattle.layout_offsets.specs.Cursive.{with_cursive_attached, with_parent_freed, freed_position, is_child_of, cursive_attachment, joined_advances, with_child_attached, with_cursive_offset, chain_turned}
use Rattle.layout_offsets.proofs.Lemmas.Turned.{turned_length}

freed_length : (d : Direction) (child to : ℕ) (ps : List Position) → length (with_parent_freed d child to ps) ≡ length ps
freed_length d child to ps = by_child (is_child_of child (parent to ps))
  where
    free : Position
    free = freed_position (is_horizontal d) (position_at to ps)

    by_child : (b : Bool) → length (if b then set ps to free else ps) ≡ length ps
    by_child true = length-set ps to free
    by_child false = refl

hung_length : (d : Direction) (child to : ℕ) (x y : ℤ) (ps : List Position) → length (with_cursive_attached d child to x y ps) ≡ length ps
hung_length d child to x y ps = by_near (is_near child to)
  where
    inner : List Position
    inner = chain_turned d to child ps

    by_near : (b : Bool) → length (if b then with_parent_freed d child to (with_child_attached d child to x y inner) else ps) ≡ length ps
    by_near true = freed_length d child to (with_child_attached d child to x y inner) ∙ length-set inner child _ ∙ turned_length d to child ps
    by_near false = refl

advances_length : (forward across : Bool) (first second : ℕ) (exit entry : Anchor) (ps : List Position) → length (joined_advances forward across first exit second entry ps) ≡ length ps
advances_length true across first second exit entry ps = length-set (set ps first _) second _ ∙ length-set ps first _
advances_length false across first second exit entry ps = length-set (set ps first _) second _ ∙ length-set ps first _

on_length : (d : Direction) (earlier : Bool) (first second : ℕ) (exit entry : Anchor) (ps : List Position) → length (with_cursive_offset d earlier first exit second entry ps) ≡ length ps
on_length d true first second exit entry ps = hung_length d first second _ _ ps
on_length d false first second exit entry ps = hung_length d second first _ _ ps

pub joined_length : (d : Direction) (earlier : Bool) (first second : ℕ) (exit entry : Anchor) (ps : List Position) → length (cursive_attachment d earlier first exit second entry ps) ≡ length ps
joined_length d earlier first second exit entry ps =
    let inner = joined_advances (is_forward d) (is_horizontal d) first exit second entry ps in
    on_length d earlier first second exit entry inner ∙ advances_length (is_forward d) (is_horizontal d) first second exit entry ps
