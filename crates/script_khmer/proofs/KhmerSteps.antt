-- Steps of a Khmer walk, where the item at an index is known.
use Rattle.std.proofs.Common.{ℕ, ◌≡◌, ◌+◌, ◌-◌, ◌==◌, Bool, true, false, if◌then◌else◌, List, [], ◌∷◌, ◌++◌, Option, Some, None, length, map, take, drop, slice_get, refl, sym, ap, ◌∙◌, arith, append_assoc}
use Rattle.std.specs.Prelude.{slice_range}
use Rattle.std.proofs.Math.Seq.{take-append_seam, drop-append_seam, drop-append-add}
use Rattle.std.proofs.lemmas.List.{append-nil, length-append}
use Rattle.script_categories.specs.declared.ot_category_t.TheConstants as category
use Rattle.buffer_glyphs.specs.Items.{Item}
use Rattle.buffer_glyphs.specs.Levels.{InList}
use Rattle.buffer_glyphs.specs.Events.{Event, Move}
use Rattle.buffer_stages.specs.Moves.{order_of_move}
use Rattle.buffer_glyphs.specs.Rewriting.{Arrangement, shifted_event, and_arranged}
use Rattle.buffer_stages.specs.Rewriting.{within}
use Rattle.buffer_stages.specs.Parts.{first_to_back, item_with_features, items_with_features}
use Rattle.script_khmer.specs.declared.khmer.KhmerMasks.{KhmerMasks}
use Rattle.script_khmer.specs.Khmer.{Step, coeng_step, coeng_moved, is_coeng, khmer_at, unchanged_step, step_at, vowel_step, vowel_moved}

-- ---- parts of lists

pub within_middle : (rule : List Item → Arrangement) (ws ms es : List Item) → within (length ws) (length ws + length ms) rule (ws ++ (ms ++ es)) ≡ record { items = ws ++ (rule ms).items ++ es; events = map (shifted_event (length ws)) (rule ms).events }
within_middle rule ws ms es =
    let n : length ws + length ms - length ws ≡ length ms = omega arith in
    let xs = ws ++ (ms ++ es) in
    let front : take (length ws) xs ≡ ws = take-append_seam ws (ms ++ es) in
    let part : slice_range xs (length ws) (length ws + length ms) ≡ ms = ap (λ k. take k (drop (length ws) xs)) n ∙ ap (take (length ms)) (drop-append_seam ws (ms ++ es)) ∙ take-append_seam ms es in
    let rest : drop (length ws + length ms) xs ≡ es = drop-append-add ws (ms ++ es) (length ms) ∙ drop-append_seam ms es in
    ap (λ ys. record { items = ys ++ (rule (slice_range xs (length ws) (length ws + length ms))).items ++ drop (length ws + length ms) xs; events = map (shifted_event (length ws)) (rule (slice_range xs (length ws) (length ws + length ms))).events }) front
    ∙ ap (λ ys. record { items = ws ++ (rule ys).items ++ drop (length ws + length ms) xs; events = map (shifted_event (length ws)) (rule ys).events }) part
    ∙ ap (λ ys. record { items = ws ++ (rule ms).items ++ ys; events = map (shifted_event (length ws)) (rule ms).events }) rest

pub within_at : (rule : List Item → Arrangement) (from to : ℕ) (xs ws ms es : List Item) → from ≡ length ws → to ≡ length ws + length ms → xs ≡ ws ++ (ms ++ es)
    → within from to rule xs ≡ record { items = ws ++ (rule ms).items ++ es; events = map (shifted_event (length ws)) (rule ms).events }
within_at rule from to xs ws ms es a b e = ap (λ n. within n to rule xs) a ∙ ap (λ n. within (length ws) n rule xs) b ∙ ap (within (length ws) (length ws + length ms) rule) e ∙ within_middle rule ws ms es

pub got_after : (front : List Item) (x : Item) (rest : List Item) (i : ℕ) → i ≡ length front → slice_get (front ++ (x ∷ rest)) i ≡ Some x
got_after front x rest i e = ap (slice_get (front ++ (x ∷ rest))) e ∙ got front
  where
    got : (f : List Item) → slice_get (f ++ (x ∷ rest)) (length f) ≡ Some x
    got [] = refl
    got (y ∷ ys) = got ys

pub got_next : (front : List Item) (x y : Item) (rest : List Item) (i : ℕ) → i ≡ length front → slice_get (front ++ (x ∷ y ∷ rest)) (i + 1) ≡ Some y
got_next front x y rest i e =
    let long = length-append front (x ∷ []) in
    ap (λ ys. slice_get ys (i + 1)) (sym (append_assoc front (x ∷ []) (y ∷ rest))) ∙ got_after (front ++ x ∷ []) y rest (i + 1) (omega (arith, long, e))

-- elements after a front come before it
pub front_turned : (i n : ℕ) (front ms rest : List Item) → i ≡ length front → n ≡ length ms → within 0 (i + n) (first_to_back i) (front ++ (ms ++ rest)) ≡ record { items = (ms ++ front) ++ rest; events = Move InList 0 (order_of_move i n) ∷ [] }
front_turned i n front ms rest a b =
    let both = front ++ ms in
    let long : length both ≡ i + n = omega (arith, length-append front ms, a, b) in
    let none : 0 + 0 ≡ 0 = omega arith in
    let left : length both - i ≡ n = omega (arith, long) in
    let shape : (first_to_back i both).items ≡ ms ++ front = ap (λ k. drop k both ++ take k both) a ∙ ap (λ ys. ys ++ take (length front) both) (drop-append_seam front ms) ∙ ap (λ ys. ms ++ ys) (take-append_seam front ms) in
    within_at (first_to_back i) 0 (i + n) (front ++ (ms ++ rest)) [] both rest refl (omega (arith, long)) (sym (append_assoc front ms rest))
    ∙ ap (λ ys. record { items = ys ++ rest; events = Move InList (0 + 0) (order_of_move i (length both - i)) ∷ [] }) shape
    ∙ ap (λ k. record { items = (ms ++ front) ++ rest; events = Move InList (0 + 0) (order_of_move i k) ∷ [] }) left

-- ---- what happens at an index

abbrev pub met_if : Bool → Step → Step → Step
met_if t r s = if t then r else s

pub at_other : (m : KhmerMasks) (index count : ℕ) (xs : List Item) (x : Item) (t : Bool) → slice_get xs index ≡ Some x → is_coeng count x ≡ false → (x.category == category.OT_VPre) ≡ t
    → khmer_at m index count xs ≡ met_if t (record { rewritten = vowel_moved index xs; count = count }) (unchanged_step count xs)
at_other m index count xs x t e f g = ap (λ a. step_at m index count xs a (slice_get xs (index + 1))) e ∙ by_next (slice_get xs (index + 1))
  where
    tested : vowel_step index count xs x ≡ met_if t (record { rewritten = vowel_moved index xs; count = count }) (unchanged_step count xs)
    tested = ap (λ b. met_if b (record { rewritten = vowel_moved index xs; count = count }) (unchanged_step count xs)) g

    by_next : (next : Option Item) → step_at m index count xs (Some x) next ≡ met_if t (record { rewritten = vowel_moved index xs; count = count }) (unchanged_step count xs)
    by_next None = tested
    by_next (Some y) = ap (λ b. met_if b (coeng_step m index count xs y) (vowel_step index count xs x)) f ∙ tested

pub at_form : (m : KhmerMasks) (index count : ℕ) (xs : List Item) (x y : Item) → slice_get xs index ≡ Some x → slice_get xs (index + 1) ≡ Some y → is_coeng count x ≡ true → (y.category == category.OT_Ra) ≡ true
    → khmer_at m index count xs ≡ record { rewritten = coeng_moved m index xs; count = 2 }
at_form m index count xs x y e f g h =
    ap (λ a. step_at m index count xs a (slice_get xs (index + 1))) e ∙ ap (step_at m index count xs (Some x)) f
    ∙ ap (λ b. met_if b (coeng_step m index count xs y) (vowel_step index count xs x)) g
    ∙ ap (λ b. met_if b (record { rewritten = coeng_moved m index xs; count = 2 }) (unchanged_step (count + 1) xs)) h

pub coeng_turned : (m : KhmerMasks) (i : ℕ) (front : List Item) (x y : Item) (rest : List Item) → i ≡ length front
    → coeng_moved m i (front ++ (x ∷ y ∷ rest)) ≡ record { items = (item_with_features m.pref x ∷ item_with_features m.pref y ∷ front) ++ map (item_with_features m.cfar) rest; events = Move InList 0 (order_of_move i 2) ∷ [] }
coeng_turned m i front x y rest at =
    let xs = front ++ (x ∷ y ∷ rest) in
    let pair = item_with_features m.pref x ∷ item_with_features m.pref y ∷ [] in
    let move : Event = Move InList 0 (order_of_move i 2) in
    let first : within i (i + 2) (items_with_features m.pref) xs ≡ record { items = front ++ (pair ++ rest); events = [] } =
    within_at (items_with_features m.pref) i (i + 2) xs front (x ∷ y ∷ []) rest at (omega (arith, at)) refl ∙ ap (λ ys. record { items = ys; events = [] }) (append_assoc front pair rest) in
    let second = front_turned i 2 front pair rest at refl in
    let turned = pair ++ front in
    let size : length xs ≡ length turned + length rest = omega (arith, at, length-append front (x ∷ y ∷ rest)) in
    let third : within (i + 2) (length xs) (items_with_features m.cfar) (turned ++ rest) ≡ record { items = turned ++ map (item_with_features m.cfar) rest; events = [] } =
    within_at (items_with_features m.cfar) (i + 2) (length xs) (turned ++ rest) turned rest [] (omega (arith, at)) size (ap (λ ys. turned ++ ys) (sym (append-nil rest)))
    ∙ ap (λ ys. record { items = ys; events = [] }) (append-nil (turned ++ map (item_with_features m.cfar) rest)) in
    ap (λ r. and_arranged (and_arranged r (within 0 (i + 2) (first_to_back i))) (within (i + 2) (length xs) (items_with_features m.cfar))) first
    ∙ ap (λ r. and_arranged r (within (i + 2) (length xs) (items_with_features m.cfar))) second
    ∙ ap (λ (r : Arrangement). record { items = r.items; events = move ∷ r.events }) third
