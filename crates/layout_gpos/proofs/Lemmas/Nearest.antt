-- The glyphs before the cursor, last first.
use Rattle.std.proofs.Common.{ℕ, ◌≡◌, ◌≤◌, List, [], ◌∷◌, reverse, Some, slice_get, refl, sym, ap, ◌∙◌}
use mathlib.Core.List.{reverse_aux}
use Rattle.buffer_glyphs.specs.declared.info.hb_glyph_info_t.{hb_glyph_info_t}
use Rattle.buffer_glyphs.specs.Items.{Item, item_of, strip}
use Rattle.std.specs.List.{list_all}
use Rattle.std.proofs.Common.{Bool, true, false, nat_le, ◌&&◌}
use Rattle.std.proofs.lemmas.List.{map-append}
use Rattle.buffer_core.specs.Sides.{Sides, items_of}
use Rattle.buffer_stages.specs.Buffers.{are_glyphs}
use Rattle.buffer_stages.proofs.Lemmas.Glyphs.{all_of_front}
use Rattle.layout_match.proofs.Lemmas.Nearest.{strip_reversed}
use Rattle.layout_match.proofs.Lemmas.Idle.{number_at as number_in}
use Rattle.buffer_stages.proofs.Reversed.{got_strip as item_there}

all_turned : {X : Type 0} (p : X → Bool) (xs ys : List X) → list_all p xs ≡ true → list_all p ys ≡ true → list_all p (reverse_aux xs ys) ≡ true
all_turned p [] ys e f = f
all_turned p (x ∷ xs) ys e f = by_first (p x) refl (λ ys' a b. all_turned p xs ys' a b)
  where
    by_first : (b : Bool) → p x ≡ b → ((zs : List _) → list_all p xs ≡ true → list_all p zs ≡ true → list_all p (reverse_aux xs zs) ≡ true) → list_all p (reverse_aux xs (x ∷ ys)) ≡ true
    by_first true is rest = rest (x ∷ ys) (sym (ap (λ (b : Bool). b && list_all p xs) is) ∙ e) (ap (λ (b : Bool). b && list_all p ys) is ∙ f)
    by_first false is rest = let no : false ≡ true = sym (ap (λ (b : Bool). b && list_all p xs) is) ∙ e in cc

pub number_back : (s : Sides) (k : ℕ) (g : hb_glyph_info_t) → slice_get (reverse s.behind) k ≡ Some g → are_glyphs (items_of s) ≡ true → g.glyph_id ≤ 65535
number_back s k g at e =
    let q : Item → Bool = λ (x : Item). nat_le x.number 65535 in
    let front : are_glyphs (strip s.behind) ≡ true = all_of_front q (strip s.behind) (strip s.ahead) (ap are_glyphs (sym (map-append item_of s.behind s.ahead)) ∙ e) in
    let turned : are_glyphs (strip (reverse s.behind)) ≡ true = sym (ap are_glyphs (strip_reversed s.behind)) ∙ all_turned q (strip s.behind) [] front refl in
    number_in (reverse s.behind) k g at turned

pub item_back : (gs : List hb_glyph_info_t) (k : ℕ) (g : hb_glyph_info_t) → slice_get (reverse gs) k ≡ Some g → slice_get (reverse (strip gs)) k ≡ Some (item_of g)
item_back gs k g at = ap (λ xs. slice_get xs k) (strip_reversed gs) ∙ item_there (reverse gs) k g at
