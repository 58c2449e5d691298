-- What a replacement does to the sides.
use Rattle.std.proofs.Common.{ℕ, ◌≡◌, ◌≤◌, ◌+◌, ◌==◌, ◌||◌, ◌⊎◌, inl, inr, nat_le, Bool, true, false, Option, Some, None, List, [], ◌∷◌, ◌++◌, length, take, drop, refl, arith, ap, sym, ◌∙◌}
use Rattle.std.proofs.lemmas.Grind.{common_steps}
use Rattle.std.proofs.lemmas.Bool.Decides.{nat_tests}
use Rattle.std.proofs.lemmas.List.{append-nil, length-map, length-take-le, length-append, map-append}
use Rattle.std.proofs.Math.Seq.{take-append_seam, drop-append_seam, drop-append-add}
use Rattle.buffer_glyphs.specs.declared.info.hb_glyph_info_t.{hb_glyph_info_t}
use Rattle.buffer_glyphs.specs.Items.{item_of, strip}
use Rattle.buffer_glyphs.specs.Deleting.{DeletionSides}
use Rattle.buffer_glyphs.specs.Lemmas.Handed.{sides_back_items, sides_front_items}
use Rattle.buffer_glyphs.specs.Parts.{first_of, last_of, or}
use Rattle.buffer_glyphs.specs.Glyphs.{glyphs_merged_at}
use Rattle.buffer_glyphs.specs.Replacements.{numbered_copies, glyph_numbered, glyphs_replaced, items_replaced}
use Rattle.buffer_glyphs.specs.Lemmas.Glyphs.{strip_merged_at, length_merged_at}
use Rattle.buffer_glyphs.specs.Lemmas.Replacements.{strip_replaced}
use Rattle.buffer_core.specs.Sides.{Sides, all_glyphs, items_of, requests_breaks}
use Rattle.buffer_core.specs.Merging.{with_handed_on, with_merged, with_copied, with_replaced}
use Rattle.buffer_core.proofs.Merged.{all_merged}

pub all_copied : (taken : ℕ) (numbers : List ℕ) (s : Sides) → all_glyphs (with_copied taken numbers s) ≡ glyphs_replaced (length s.behind) taken numbers (all_glyphs s)
all_copied taken numbers s = rw (take-append_seam s.behind s.ahead, drop-append_seam s.behind s.ahead, drop-append-add s.behind s.ahead taken) refl

pub length_behind : (taken : ℕ) (s : Sides) → length (with_merged (length s.behind) (length s.behind + taken) s).behind ≡ length s.behind
length_behind taken s =
    let gs = glyphs_merged_at s.level (length s.behind) (length s.behind + taken) (all_glyphs s) in
    let long = length_merged_at s.level (length s.behind) (length s.behind + taken) (all_glyphs s) (omega arith) in
    let sides = length-append s.behind s.ahead in
    length-take-le (length s.behind) gs (omega (arith, long, sides))

pub all_copied_merged : (taken : ℕ) (numbers : List ℕ) (s : Sides)
    → all_glyphs (with_copied taken numbers (with_merged (length s.behind) (length s.behind + taken) s)) ≡ glyphs_replaced (length s.behind) taken numbers (glyphs_merged_at s.level (length s.behind) (length s.behind + taken) (all_glyphs s))
all_copied_merged taken numbers s =
    let mid = with_merged (length s.behind) (length s.behind + taken) s in
    all_copied taken numbers mid ∙ ap (λ n. glyphs_replaced n taken numbers (all_glyphs mid)) (length_behind taken s)
    ∙ ap (glyphs_replaced (length s.behind) taken numbers) (all_merged (length s.behind) (length s.behind + taken) s)

pub handed_items : (gone : List hb_glyph_info_t) (s : Sides) → items_of (with_handed_on gone s) ≡ items_of s
handed_items gone s =
    let l : DeletionSides = record { front = s.behind; back = s.ahead } in
    let t = with_handed_on gone s in
    map-append item_of t.behind t.ahead ∙ ap (λ xs. xs ++ strip t.ahead) (sides_front_items (requests_breaks s) gone l) ∙ ap (λ xs. strip s.behind ++ xs) (sides_back_items (requests_breaks s) gone l) ∙ sym (map-append item_of s.behind s.ahead)

pub replaced_items : (taken : ℕ) (numbers : List ℕ) (s : Sides) → items_of (with_replaced taken numbers s) ≡ items_replaced (length s.behind) taken numbers (items_of s)
replaced_items taken numbers s =
    let gs = glyphs_merged_at s.level (length s.behind) (length s.behind + taken) (all_glyphs s) in
    let put = with_copied taken numbers (with_merged (length s.behind) (length s.behind + taken) s) in
    handed_items (take taken (drop (length s.behind) gs)) put ∙ ap strip (all_copied_merged taken numbers s) ∙ strip_replaced (length s.behind) taken numbers gs
    ∙ ap (items_replaced (length s.behind) taken numbers) (strip_merged_at s.level (length s.behind) (length s.behind + taken) (all_glyphs s) (omega arith))

no_glyph : (gs hs : List hb_glyph_info_t) → length gs ≡ 0 → length hs ≡ 0 → or (first_of gs) (last_of hs) ≡ None
no_glyph [] [] e d = refl
no_glyph [] (h ∷ hs) e d = cc
no_glyph (g ∷ gs) hs e d = cc
