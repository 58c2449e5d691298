-- Stages in line, one after another.
use Rattle.std.proofs.Common.{ℕ, ◌≡◌, true, false, [], length, map, refl, ap, subst, ◌∙◌}
use Rattle.std.proofs.lemmas.List.{length-map}
use Rattle.buffer_glyphs.specs.declared.level.BufferClusterLevel.{BufferClusterLevel}
use Rattle.buffer_glyphs.specs.EventParts.{parts_of}
use Rattle.buffer_glyphs.specs.Items.{Item}
use Rattle.buffer_glyphs.specs.Order.{falls_after}
use Rattle.buffer_parts.specs.Lemmas.Plainly.{plainly_in_turn}
use Rattle.buffer_parts.specs.Lemmas.Turns.{turns_add_up, unturned_keeps_side}
use Rattle.buffer_core.specs.Readings.{View, Read, Stage, always, and_then, as_it_is, then_read, with_events}
use Rattle.buffer_stages.specs.Stages.{with_items_mapped}
use Rattle.buffer_parts.specs.PlainStages.{KeepsPlainly}
use Rattle.buffer_parts.specs.Lemmas.PlainStages.{ReadsPlainly, always_plainly, even_plainly, plain_stages_keep_parts, same_plainly}
use Rattle.buffer_parts.specs.Lemmas.Stages.{at_read, both_read, stages_keep_parts}
use Rattle.shape_parts.specs.Lines.{KeepsDirection, KeepsFall, KeepsPartsOnLine, StaysInLine, falls_on_line}
use Rattle.shape_parts.specs.StageLaws.{InLineKeepsPartsOnLine, StagesKeepPartsOnLine, WantedKeepPartsOnLine}

-- ---- one stage

pub plainly_in_line : (stage : Stage) → KeepsPlainly stage → KeepsDirection stage → StaysInLine stage
plainly_in_line stage p d = record { kept = plain_stages_keep_parts stage p; direction = d }

pub always_direction : (f : View → Read) → ((v : View) → (f v).view.direction ≡ v.direction) → KeepsDirection (always f)
always_direction f d v r e = at_read (λ q. q.view.direction ≡ v.direction) (f v) r e (d v)

pub always_in_line : (f : View → Read) → ((v : View) (level : BufferClusterLevel) → ReadsPlainly (length v.items) (f v) level) → ((v : View) → (f v).view.direction ≡ v.direction) → StaysInLine (always f)
always_in_line f p d = plainly_in_line (always f) (always_plainly f p) (always_direction f d)

-- each item changed by itself
pub mapped_in_line : (k : Item → Item) → StaysInLine (always (with_items_mapped k))
mapped_in_line k = always_in_line (with_items_mapped k) (λ v level. even_plainly [] v (record v { items = map k v.items }) level tt (length-map v.items k)) (λ v. refl)

-- one read, and then another
pub reads_in_turn : (n : ℕ) (r s : Read) (level : BufferClusterLevel) → ReadsPlainly n r level → ReadsPlainly (length r.view.items) s level → ReadsPlainly n (then_read r s) level
reads_in_turn n r s level p q = plainly_in_turn (r.events level) (s.events level) n (length r.view.items) (length s.view.items) p q

-- ---- the line

pub in_line_keeps_parts_on_line : InLineKeepsPartsOnLine
in_line_keeps_parts_on_line stage stays = record {
  parts = stays.kept.parts;
  fall = λ v r level falls mono e.
      ap (λ b. falls_on_line b r.view.direction) (unturned_keeps_side level (r.events level) falls (stays.kept.unturned v r level mono e)) ∙ ap (falls_on_line falls) (stays.direction v r e);
}

pub then_keeps_fall : (s t : Stage) → KeepsFall s → KeepsFall t → KeepsFall (λ v. and_then (s v) t)
then_keeps_fall s t p q v r level falls mono e =
    let two = both_read (s v) t r e in
    subst (λ (w : Read). falls_on_line (falls_after falls (parts_of level (w.events level))) w.view.direction ≡ falls_on_line falls v.direction) two.both
    (ap (λ b. falls_on_line b two.second.view.direction) (turns_add_up level (two.first.events level) (two.second.events level) falls)
    ∙ q two.first.view two.second level (falls_after falls (parts_of level (two.first.events level))) mono two.second_is
    ∙ p v two.first level falls mono two.first_is)

pub stages_keep_parts_on_line : StagesKeepPartsOnLine
stages_keep_parts_on_line s t p q = record { parts = stages_keep_parts s t p.parts q.parts; fall = then_keeps_fall s t p.fall q.fall }

pub same_in_line : StaysInLine as_it_is
same_in_line = plainly_in_line as_it_is same_plainly (λ v r e. at_read (λ q. q.view.direction ≡ v.direction) (with_events [] v) r e refl)

pub same_on_line : KeepsPartsOnLine as_it_is
same_on_line = in_line_keeps_parts_on_line as_it_is same_in_line

pub wanted_keep_parts_on_line : WantedKeepPartsOnLine
wanted_keep_parts_on_line true stage p = p
wanted_keep_parts_on_line false stage p = same_on_line
