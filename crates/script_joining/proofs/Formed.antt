-- The forms of letters, one after another.
use Rattle.std.proofs.Common.{ℕ, zero, suc, ◌≡◌, ◌<◌, ◌≤◌, ◌+◌, true, false, if◌then◌else◌, List, [], ◌∷◌, ◌++◌, Option, Some, None, length, take, drop, set, map, get_or, arith, add-one, refl, sym, ap, ◌∙◌}
use Rattle.std.specs.Prelude.{find, option_map}
use Rattle.std.proofs.lemmas.List.{drop_all, take_all, append-nil, length-set}
use Rattle.buffer_glyphs.specs.declared.info.hb_glyph_info_t.{hb_glyph_info_t}
use Rattle.buffer_glyphs.specs.Items.{item_of}
use Rattle.script_joining.specs.Types.{JoiningType}
use Rattle.script_joining.specs.Forms.{letter_form}
use Rattle.script_joining.specs.Joining.{is_letter, form_after}
use Rattle.script_joining.specs.Glyphs.{glyph_formed, glyphs_copied, glyphs_formed, nearest_past, nearest_or, type_kept}

-- ---- the nearest letter

pub found_seen : {X : Type 0} (f : X → JoiningType) (xs : List X) → find is_letter (map f xs) ≡ option_map f (find (λ x. is_letter (f x)) xs)
found_seen f [] = refl
found_seen f (x ∷ xs) =
    elim (is_letter (f x)) as (λ b. (if b then Some (f x) else find is_letter (map f xs)) ≡ option_map f (if b then Some x else find (λ x. is_letter (f x)) xs))
    [ true ↦ refl | false ↦ found_seen f xs ]

-- ---- forms that are copied

copied_suc : (before : Option ℕ) (i : ℕ) (ys : List hb_glyph_info_t) (d : hb_glyph_info_t) (form : ℕ) → i < length ys → form ≡ form_after before (item_of (get_or ys i d)) (get_or ys i d).auxiliary
    → take (suc i) (set ys i (glyph_formed form (get_or ys i d))) ++ glyphs_copied (Some form) (drop (suc i) (set ys i (glyph_formed form (get_or ys i d)))) ≡ take i ys ++ glyphs_copied before (drop i ys)
copied_suc before i [] d form lt e = absurd (omega arith)
copied_suc before zero (y ∷ ys) d form lt e = ap (λ n. glyph_formed n y ∷ glyphs_copied (Some n) ys) e
copied_suc before (suc i) (y ∷ ys) d form lt e = ap (λ zs. y ∷ zs) (copied_suc before i ys d form (omega arith) e)

-- glyphs of which the first so many have taken the forms before them
pub record AreCopied (i : ℕ) (before : Option ℕ) (hs xs : List hb_glyph_info_t) : Type 0 where
  pub glyphs : take i xs ++ glyphs_copied before (drop i xs) ≡ glyphs_copied None hs

pub none_copied : (hs : List hb_glyph_info_t) → AreCopied 0 None hs hs
none_copied hs = record { glyphs = refl }

pub next_copied : (i : ℕ) (before : Option ℕ) (hs xs : List hb_glyph_info_t) (d : hb_glyph_info_t) (form : ℕ) → i < length xs → form ≡ form_after before (item_of (get_or xs i d)) (get_or xs i d).auxiliary
    → AreCopied i before hs xs → AreCopied (i + 1) (Some form) hs (set xs i (glyph_formed form (get_or xs i d)))
next_copied i before hs xs d form lt e p = record { glyphs = rw add-one (copied_suc before i xs d form lt e) ∙ p.glyphs }

pub all_copied : (i : ℕ) (before : Option ℕ) (hs xs : List hb_glyph_info_t) → length xs ≤ i → AreCopied i before hs xs → xs ≡ glyphs_copied None hs
all_copied i before hs xs le p =
    sym (ap (λ ys. take i xs ++ glyphs_copied before ys) (drop_all i xs le) ∙ append-nil (take i xs) ∙ take_all i xs le) ∙ p.glyphs

-- ---- forms

formed_suc : (before after : JoiningType) (i : ℕ) (ys : List hb_glyph_info_t) (d : hb_glyph_info_t) (form : ℕ) → i < length ys
    → form ≡ letter_form before (type_kept (get_or ys i d)) (nearest_or after (map type_kept (drop (suc i) ys)))
    → take (suc i) (set ys i (glyph_formed form (get_or ys i d))) ++ glyphs_formed (nearest_past before (type_kept (get_or ys i d))) after (drop (suc i) (set ys i (glyph_formed form (get_or ys i d)))) ≡ take i ys ++ glyphs_formed before after (drop i ys)
formed_suc before after i [] d form lt e = absurd (omega arith)
formed_suc before after zero (y ∷ ys) d form lt e = ap (λ n. glyph_formed n y ∷ glyphs_formed (nearest_past before (type_kept y)) after ys) e
formed_suc before after (suc i) (y ∷ ys) d form lt e = ap (λ zs. y ∷ zs) (formed_suc before after i ys d form (omega arith) e)

-- glyphs of which the first so many have their forms
pub record AreFormed (start after : JoiningType) (i : ℕ) (before : JoiningType) (hs xs : List hb_glyph_info_t) : Type 0 where
  pub glyphs : take i xs ++ glyphs_formed before after (drop i xs) ≡ glyphs_formed start after hs
  pub count : length xs ≡ length hs

pub none_formed : (before after : JoiningType) (hs : List hb_glyph_info_t) → AreFormed before after 0 before hs hs
none_formed before after hs = record { glyphs = refl; count = refl }

pub next_formed : (start before after : JoiningType) (i : ℕ) (hs xs : List hb_glyph_info_t) (d : hb_glyph_info_t) (form : ℕ) → i < length xs
    → form ≡ letter_form before (type_kept (get_or xs i d)) (nearest_or after (map type_kept (drop (i + 1) xs)))
    → AreFormed start after i before hs xs → AreFormed start after (i + 1) (nearest_past before (type_kept (get_or xs i d))) hs (set xs i (glyph_formed form (get_or xs i d)))
next_formed start before after i hs xs d form lt e p =
    let f : form ≡ letter_form before (type_kept (get_or xs i d)) (nearest_or after (map type_kept (drop (suc i) xs))) = e ∙ ap (λ n. letter_form before (type_kept (get_or xs i d)) (nearest_or after (map type_kept (drop n xs)))) (add-one i) in
    record { glyphs = rw add-one (formed_suc before after i xs d form lt f) ∙ p.glyphs; count = length-set xs i (glyph_formed form (get_or xs i d)) ∙ p.count }

pub all_formed : (start before after : JoiningType) (i : ℕ) (hs xs : List hb_glyph_info_t) → length hs ≤ i → AreFormed start after i before hs xs → xs ≡ glyphs_formed start after hs
all_formed start before after i hs xs le p =
    let end : length xs ≤ i = (let n = p.count in omega (arith, n, le)) in
    sym (ap (λ ys. take i xs ++ glyphs_formed before after ys) (drop_all i xs end) ∙ append-nil (take i xs) ∙ take_all i xs end) ∙ p.glyphs
