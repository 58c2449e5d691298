-- Stages that change each glyph by itself and keep its number.
use Rattle.std.proofs.Common.{ℕ, ◌≡◌, ◌==◌, List, [], ◌∷◌, map, refl, sym, ap, ◌∙◌}
use Rattle.std.specs.List.{list_any}
use Rattle.buffer_glyphs.specs.Items.{Item}
use Rattle.buffer_core.specs.Readings.{BufferState, always}
use Rattle.buffer_core.specs.Sides.{Sides, items_of}
use Rattle.buffer_stages.specs.Buffers.{are_glyphs}
use Rattle.buffer_stages.specs.Ready.{IsDone}
use Rattle.buffer_stages.specs.Pauses.{BringsNoGlyph}
use Rattle.buffer_stages.specs.Stages.{IsFollowed, with_items_mapped}

pub mapped_items : (k : Item → Item) (old new : Sides) → IsFollowed (always (with_items_mapped k)) old new → items_of new ≡ map k (items_of old)
mapped_items k old new f = ap (λ (r : BufferState). r.view.items) f.follows

pub kept_numbers : (k : Item → Item) → ((x : Item) → (k x).number ≡ x.number) → (xs : List Item) → are_glyphs (map k xs) ≡ are_glyphs xs
kept_numbers k same [] = refl
kept_numbers k same (x ∷ xs) = rw (same x, kept_numbers k same xs) refl

-- a map that keeps numbers leaves glyphs
pub mapped_done : (k : Item → Item) → ((x : Item) → (k x).number ≡ x.number) → (old new : Sides) → IsFollowed (always (with_items_mapped k)) old new → IsDone (always (with_items_mapped k)) old new
mapped_done k same old new f = record {
  follows = f.follows;
  settings = f.settings;
  ready = f.ready;
  numbers = λ are. ap are_glyphs (mapped_items k old new f) ∙ kept_numbers k same (items_of old) ∙ are;
}

any_number : (k : Item → Item) → ((x : Item) → (k x).number ≡ x.number) → (n : ℕ) (xs : List Item) → list_any (λ (x : Item). x.number == n) (map k xs) ≡ list_any (λ (x : Item). x.number == n) xs
any_number k same n [] = refl
any_number k same n (x ∷ xs) = rw (same x, any_number k same n xs) refl

-- and it brings in no number
pub mapped_brings_none : (k : Item → Item) → ((x : Item) → (k x).number ≡ x.number) → (old new : Sides) → IsFollowed (always (with_items_mapped k)) old new → BringsNoGlyph (items_of old) (items_of new)
mapped_brings_none k same old new f = λ n h. sym (ap (list_any (λ (x : Item). x.number == n)) (mapped_items k old new f) ∙ any_number k same n (items_of old)) ∙ h
