-- Ligatures that cannot match by the next glyph.
use Rattle.std.proofs.Common.{ℕ, ◌≡◌, ◌<◌, ◌+◌, ◌-◌, ◌==◌, Bool, true, false, List, [], ◌∷◌, drop, length, map, get_or, Err, refl, sym, ap, subst, ◌∙◌, arith}
use Rattle.std.specs.Prelude.{nat_lt}
use Rattle.std.proofs.lemmas.Bool.{ne_eqb}
use Rattle.buffer_glyphs.specs.Items.{strip}
use Rattle.buffer_glyphs.specs.Origins.{Asks}
use Rattle.buffer_glyphs.specs.Events.{Concat, concat_marked}
use Rattle.buffer_core.specs.Sides.{Sides, flag_requests_of, origins_of}
use Rattle.layout_tables.specs.Layout.{LigatureTable}
use Rattle.layout_match.specs.declared.next_glyph.NextGlyph.{NextGlyph}
use Rattle.layout_match.specs.declared.next_glyph.NextGlyph.TheVariants.{Unknown}
use Rattle.layout_match.specs.Applied.{ApplyContext, own_search}
use Rattle.layout_match.specs.Matches.{answers_of, input_end, sequence_end, then_sequence_end}
use Rattle.layout_match.specs.Next.{IsNext, may_find}
use Rattle.layout_match.specs.Sequences.{is_glyph, test_at}
use Rattle.buffer_stages.specs.Actions.{Cut, Outcome, Passes, attempt_around}
use Rattle.buffer_stages.specs.Buffers.{IsPassed}
use Rattle.buffer_stages.specs.Performing.{IsPerformed, cut_with}
use Rattle.buffer_stages.proofs.Lemmas.Frames.{same_asks, still_settings}
use Rattle.buffer_stages.proofs.Lemmas.Performed.{ArePassed, passed_next, passes_nothing}
use Rattle.layout_gsub.specs.Ligating.{ligature_found, ligature_over, may_follow}

pub no_second : (next : NextGlyph) (components : List ℕ) → length components ≡ 0 → true ≡ may_follow next components
no_second next [] none = refl
no_second next (g ∷ components) none = absurd (omega (arith, none))

pub second_component : (next : NextGlyph) (components : List ℕ) → 0 < length components → may_find next (test_at (map is_glyph components) 0) ≡ may_follow next components
second_component next [] some = absurd (omega (arith, some))
second_component next (g ∷ components) some = refl

-- a failed attempt changes nothing where it isn't flagged
attempt_unflagged : (back ahead r : ℕ) (s : Sides) (o : Outcome) → (flag_requests_of s).concat ≡ false → o ≡ attempt_around back ahead (cut_with r s) → IsPerformed o false r r s s
attempt_unflagged back ahead r s o unasked e =
    let P : Outcome → Type 0 = λ p. IsPerformed p false r r s s in
    let from = length (cut_with r s).front - back in
    let to = length (cut_with r s).front + ahead in
    let passed : IsPassed (Concat from to ∷ []) s s = record { cut_is = refl; happened = ap (λ b. concat_marked b from to (origins_of s)) (sym unasked); still = refl; read = refl } in
    subst P (sym e) (refl, refl, passed)

by_length : (a : ApplyContext) (l : LigatureTable) (r : ℕ) (s : Sides) (few : Bool) → (length l.components == 0) ≡ false → nat_lt (length l.components) 64 ≡ few → IsPerformed (ligature_found a l (input_end (own_search a (strip s.ahead)) (map is_glyph l.components) (strip s.ahead)) (cut_with r s)) false r r s s
    → IsPerformed (ligature_over a l (cut_with r s)) false r r s s
by_length a l r s true some is fails =
    let P : Outcome → Type 0 = λ p. IsPerformed p false r r s s in
    let same : ligature_over a l (cut_with r s) ≡ ligature_found a l (input_end (own_search a (strip s.ahead)) (map is_glyph l.components) (strip s.ahead)) (cut_with r s) = rw (some, is) refl in
    subst P (sym same) fails
by_length a l r s false some is fails =
    let same : ligature_over a l (cut_with r s) ≡ Passes [] = rw (some, is) refl in
    passes_nothing r s (ligature_over a l (cut_with r s)) same

-- by the components after the first
excluded_by : (a : ApplyContext) (l : LigatureTable) (next : NextGlyph) (r : ℕ) (s : Sides) (components : List ℕ) → l.components ≡ components → may_follow next components ≡ false → (flag_requests_of s).concat ≡ false → IsNext next (own_search a (strip s.ahead)) 1 (strip s.ahead)
    → IsPerformed (ligature_over a l (cut_with r s)) false r r s s
excluded_by a l next r s [] is none unasked told = cc
excluded_by a l next r s (g ∷ components) is none unasked told =
    let xs = strip s.ahead in
    let ask = own_search a xs in
    let fails = told (is_glyph g) none in
    let found : input_end ask (map is_glyph l.components) xs ≡ Err fails.0 =
    ap (λ gs. input_end ask (map is_glyph gs) xs) is ∙ ap (λ at. then_sequence_end at (λ n. sequence_end (answers_of ask (map is_glyph components)) n xs)) fails.1 in
    let tried : ligature_found a l (input_end ask (map is_glyph l.components) xs) (cut_with r s) ≡ attempt_around 0 fails.0 (cut_with r s) = ap (λ at. ligature_found a l at (cut_with r s)) found in
    let count : length l.components ≡ length (g ∷ components) = ap length is in
    let some : (length l.components == 0) ≡ false = ne_eqb (length l.components) 0 (λ (e : length l.components ≡ 0). absurd (omega (arith, count, e))) in
    by_length a l r s (nat_lt (length l.components) 64) some refl (attempt_unflagged 0 fails.0 r s (ligature_found a l (input_end ask (map is_glyph l.components) xs) (cut_with r s)) unasked tried)

told_of_unknown : (next : NextGlyph) (components : List ℕ) → next ≡ Unknown → may_follow next components ≡ false → ⊥
told_of_unknown next [] is none = cc
told_of_unknown next (g ∷ components) is none =
    let may : may_find next (is_glyph g) ≡ true = ap (λ n. may_find n (is_glyph g)) is in
    cc

-- where something is told, failed matches aren't flagged
unasked_where_told : (asked : Bool) (next : NextGlyph) (components : List ℕ) → (asked ≡ true → next ≡ Unknown) → may_follow next components ≡ false → asked ≡ false
unasked_where_told false next components unknown none = refl
unasked_where_told true next components unknown none = absurd (told_of_unknown next components (unknown refl) none)

-- the ligature at an index is passed over where the next glyph excludes it
pub passed_over : (a : ApplyContext) (all : List LigatureTable) (l : LigatureTable) (next : NextGlyph) (k r : ℕ) (start now : Sides) → k < length all → l ≡ get_or all k l → may_follow next l.components ≡ false → IsNext next (own_search a (strip start.ahead)) 1 (strip start.ahead)
    → ((flag_requests_of start).concat ≡ true → next ≡ Unknown) → ArePassed (ligature_over a) all (drop k all) r start now → ArePassed (ligature_over a) all (drop (k + 1) all) r start now
passed_over a all l next k r start now lt at none told unflagged t =
    let same : strip now.ahead ≡ strip start.ahead = ap (λ (x : Cut). x.rest) t.cut_is in
    let asks = same_asks start now (still_settings start now t.still) in
    let here : IsNext next (own_search a (strip now.ahead)) 1 (strip now.ahead) = rw same told in
    let unasked : (flag_requests_of now).concat ≡ false = ap (λ (q : Asks). q.concat) asks ∙ unasked_where_told (flag_requests_of start).concat next l.components unflagged none in
    (passed_next (ligature_over a) all k l r r start now now lt at t (excluded_by a l next r now l.components refl none unasked here)).0
