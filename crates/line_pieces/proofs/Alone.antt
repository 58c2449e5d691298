-- The glyphs that a line has of its paragraph are those that shaping it alone gives.
use Rattle.std.proofs.Common.{ℕ, zero, suc, ◌≡◌, ◌≢◌, ◌≤◌, ◌<◌, ◌%◌, ◌==◌, ◌&&◌, ◌||◌, Bool, true, false, not, List, [], ◌∷◌, length, map, bit_and, arith, inl, inr, refl, sym, ap, subst, ◌∙◌}
use Rattle.std.specs.Prelude.{Err, Ok, Some, slice_get, slice_range}
use Rattle.std.specs.List.{All, list_any}
use Rattle.std.proofs.lemmas.Bool.{and_parts}
use Rattle.std.proofs.lemmas.Bool.Decides.{nat_tests}
use Rattle.std.proofs.lemmas.Grind.{common_steps}
use Rattle.std.proofs.lemmas.List.{append-nil, length-map}
use Rattle.std.proofs.lemmas.List.Elements.{All-cons, All-contains, All-nil}
use Rattle.std.proofs.lemmas.Nat.{and_assoc, and_mask}
use Rattle.kuspveli.specs.buffer_common.Direction.{is_backward}
use Rattle.kuspveli.specs.buffer_common.declared.direction.Direction.{Direction}
use Rattle.kuspveli.specs.buffer_glyphs.declared.info.TheConstants.{UNSAFE_TO_BREAK}
use Rattle.kuspveli.specs.buffer_glyphs.declared.info.hb_glyph_info_t.{hb_glyph_info_t}
use Rattle.kuspveli.specs.buffer_glyphs.Items.{clusters, item_of}
use Rattle.kuspveli.specs.buffer_glyphs.Order.{IsInOrder, has_number}
use Rattle.kuspveli.specs.buffer_glyphs.Origins.{Origin, numbers, origin_of, origins}
use Rattle.kuspveli.specs.buffer_glyphs.Lemmas.Numbers.{Has, has_here, has_right}
use Rattle.kuspveli.specs.buffer_parts.Slices.{AreJoined}
use Rattle.kuspveli.specs.buffer_parts.Breaks.Concat.{SameButConcat}
use Rattle.kuspveli.specs.buffer_parts.Breaks.Fragments.{IsWhole, as_they_stand}
use Rattle.kuspveli.specs.buffer_parts.Breaks.Unsafe.{has_flagged_of, is_flagged_of}
use Rattle.kuspveli.specs.buffer_unicode_tables.Lawful.{AsciiHasNoMarks}
use Rattle.kuspveli.specs.shape_laws.Breaks.InLine.{MayBeCutAt, glyph_numbers}
use Rattle.kuspveli.specs.shape_laws.Breaks.SafeTexts.{SafeBreaks}
use Rattle.kuspveli.specs.shape_pipeline.Laws.{AreAlike, TextsKeepNumbers, TextsReadAlike}
use Rattle.kuspveli.specs.shape_pipeline.ReadingLaws.{have_no_ranges}
use Rattle.kuspveli.specs.shape_pipeline.Shaped.{text_reading}
use Rattle.kuspveli.specs.shaping_buffer.buffer_core.Readings.{BufferState, Follows, Reading, View}
use Rattle.kuspveli.specs.shaping_buffer.buffer_core.Sides.{Sides, all_glyphs, state_of, view_of}
use Rattle.line_pieces.specs.declared.lines.GlyphRange.{GlyphRange}
use Rattle.line_pieces.specs.declared.lines.Line.{Line}
use Rattle.line_pieces.specs.Alone.{HasClustersOf, HasGlyphsOf, IsCutAt, IsFrom, IsUpTo, OwnLinesAreShapedAlone, OwnLinesLookAlike, Setup, ShapedText, shaping_of}
use Rattle.line_pieces.specs.Laws.{is_flagged_at}
use Rattle.line_pieces.specs.Lines.{AreGlyphsOf, HasExactly, IsInLine, IsLine, byte_range, is_safe_at, paragraph_by}
use Rattle.line_pieces.specs.Steps.{text_steps}
use Rattle.line_pieces.proofs.Rests.{IsShownCut, line_range, rest_may, rest_order}
use Rattle.line_pieces.proofs.Shown.{flags_show_safe_breaks}
use Rattle.buffer_facts.proofs.Numbers.{test_of_apart as other_test}
use Rattle.buffer_facts.proofs.Truth.{false_by_not as not_false}

-- ---- clusters and flags of glyphs, and of their origins

origin_numbers : (gs : List hb_glyph_info_t) → numbers (origins gs) ≡ clusters gs
origin_numbers [] = refl
origin_numbers (g ∷ gs) = ap (λ ns. g.cluster ∷ ns) (origin_numbers gs)

one_or_none : (n : ℕ) → n < 2 → (n == 1) ≡ not (n == 0)
one_or_none zero less = refl
one_or_none (suc zero) less = refl
one_or_none (suc (suc n)) less = absurd (omega (arith, less))

flag_read : (m : ℕ) → (bit_and (bit_and m 7) 1 == 1) ≡ not (bit_and m UNSAFE_TO_BREAK == 0)
flag_read m =
    let bit : bit_and (bit_and m 7) 1 ≡ bit_and m 1 = and_assoc 1 m 7 in
    let mask : bit_and m 1 ≡ m % 2 = and_mask m 1 in
    ap (λ n. n == 1) bit ∙ one_or_none (bit_and m 1) (omega (arith, mask))

flagged_read : (c : ℕ) (gs : List hb_glyph_info_t) → has_flagged_of c (origins gs) ≡ list_any (is_flagged_at c) gs
flagged_read c [] = refl
flagged_read c (g ∷ gs) =
    let here : is_flagged_of c (origin_of g) ≡ is_flagged_at c g = ap (λ t. g.cluster == c && t) (flag_read g.mask) in
    ap (λ t. t || has_flagged_of c (origins gs)) here ∙ ap (λ t. is_flagged_at c g || t) (flagged_read c gs)

-- ---- where a break is safe, the law of safe breaks holds

or_right : (s t : Bool) → s ≡ false → (s || t) ≡ true → t ≡ true
or_right true t e shown = cc
or_right false t e shown = shown

safe_may : (d : Direction) (r : Sides) (end byte : ℕ) → length r.positions ≡ length (all_glyphs r) → byte ≢ 0 → byte ≢ end → is_safe_at (text_steps d r) end byte ≡ true → MayBeCutAt byte (state_of r)
safe_may d r end byte same some before safe =
    let gs = all_glyphs r in
    let inner : (byte == 0 || byte == end) ≡ false = ap (λ t. t || byte == end) (other_test byte 0 some) ∙ other_test byte end before in
    let shown = or_right (byte == 0 || byte == end) (has_number (clusters gs) byte && not (list_any (is_flagged_at byte) gs)) inner (sym (flags_show_safe_breaks d r end byte same) ∙ safe) in
    let two = and_parts (has_number (clusters gs) byte) (not (list_any (is_flagged_at byte) gs)) shown in
    record { there = ap (λ ns. has_number ns byte) (origin_numbers gs) ∙ two.0; safe = flagged_read byte gs ∙ not_false (list_any (is_flagged_at byte) gs) two.1 }

-- ---- texts that aren't cut

same_self : (os : List Origin) → SameButConcat os os
same_self [] = tt
same_self (o ∷ os) = (refl, refl, same_self os)

-- a state without glyphs
abbrev none_of : BufferState → BufferState
none_of s = record s { view = record s.view { items = []; positions = [] }; origins = [] }

stands_last : {X : Type 0} (falls : Bool) (xs : List X) → xs ≡ as_they_stand falls [] xs
stands_last false xs = refl
stands_last true xs = sym (append-nil xs)

stands_first : {X : Type 0} (falls : Bool) (xs : List X) → xs ≡ as_they_stand falls xs []
stands_first false xs = sym (append-nil xs)
stands_first true xs = refl

none_whole : (s : BufferState) → IsWhole (none_of s)
none_whole s = record { positions = refl; origins = refl }

uncut_start : (falls : Bool) (s : BufferState) → IsWhole s → IsShownCut falls 0 s (none_of s) s
uncut_start falls s is = record {
  both = record {
    glyphs = stands_last falls (glyph_numbers s.view.items);
    positions = stands_last falls s.view.positions;
    clusters = stands_last falls (numbers s.origins);
    flags = subst (SameButConcat s.origins) (stands_last falls s.origins) (same_self s.origins);
  };
  below = λ n has. cc;
  above = λ n has. omega arith;
  early_whole = none_whole s;
  late_whole = is;
}

uncut_end : (falls : Bool) (end : ℕ) (s : BufferState) → IsWhole s → ((n : ℕ) → Has (numbers s.origins) n → n < end) → IsShownCut falls end s s (none_of s)
uncut_end falls end s is within = record {
  both = record {
    glyphs = stands_first falls (glyph_numbers s.view.items);
    positions = stands_first falls s.view.positions;
    clusters = stands_first falls (numbers s.origins);
    flags = subst (SameButConcat s.origins) (stands_first falls s.origins) (same_self s.origins);
  };
  below = within;
  above = λ n has. cc;
  early_whole = is;
  late_whole = none_whole s;
}

-- ---- texts that are cut

some_number : (os : List Origin) → 0 < length os → (n : ℕ) × Has (numbers os) n
some_number [] some = absurd (omega (arith, some))
some_number (o ∷ os) some = (o.cluster, has_here o.cluster (numbers os))

-- the characters of a text from a byte on are of the whole
from_within : (s : Setup) (c end : ℕ) (whole rest : ShapedText s) → IsFrom s c whole rest → ((n : ℕ) → Has (numbers (state_of whole.text).origins) n → n < end) → (n : ℕ) → Has (numbers (state_of rest.text).origins) n → n < end
from_within s c end whole rest (inl (start, same)) within n has = within n (let P : ShapedText s → Type 0 = λ t. Has (numbers (state_of t.text).origins) n in subst P same has)
from_within s c end whole rest (inr is) within n has =
    within n (subst (λ ns. Has ns n) (sym is.cut.texts.broken.clusters) (has_right n (numbers (state_of is.earlier.text).origins) (numbers (state_of rest.text).origins) has))

module _ (law : SafeBreaks) (keeps : TextsKeepNumbers) (ascii : AsciiHasNoMarks) (s : Setup) (falls : Bool) where
  -- a text's result as pipeline stages know it
  abbrev shown : ShapedText s → BufferState
  shown t = state_of t.result

  abbrev Ordered : BufferState → Type 0
  Ordered r = IsInOrder falls (numbers r.origins)

  result_whole : (t : ShapedText s) → IsWhole (shown t)
  result_whole t =
      let gs = all_glyphs t.result in
      record { positions = t.is.placed ∙ sym (length-map gs item_of); origins = length-map gs origin_of ∙ sym (length-map gs item_of) }

  brought : (t : ShapedText s) (n : ℕ) → Has (numbers (shown t).origins) n → Has (numbers (state_of t.text).origins) n
  brought t = keeps (shaping_of s t.text) t.text (shown t) t.shaped

  cut_shown : (c : ℕ) (whole earlier later : ShapedText s) → IsCutAt s c whole earlier later → MayBeCutAt c (shown whole) → Ordered (shown whole) → IsShownCut falls c (shown whole) (shown earlier) (shown later)
  cut_shown c whole earlier later cut may order = record {
    both = law s.font s.tables s.tags s.spans s.features c whole.text earlier.text later.text whole.result earlier.result later.result cut.texts cut.language cut.shaper ascii cut.characters cut.limits
        (record { all = whole.shaped; early = earlier.shaped; late = later.shaped }) falls may order;
    below = λ n has. cut.texts.broken.below n (brought earlier n has);
    above = λ n has. cut.texts.broken.above n (brought later n has);
    early_whole = result_whole earlier;
    late_whole = result_whole later;
  }

  -- the text from a byte on
  from_shown : (c : ℕ) (whole rest : ShapedText s) → IsFrom s c whole rest → (c ≢ 0 → MayBeCutAt c (shown whole)) → Ordered (shown whole) → (early : BufferState) × IsShownCut falls c (shown whole) early (shown rest)
  from_shown c whole rest (inl (start, same)) may order =
      let P : ℕ → Type 0 = λ n. IsShownCut falls n (shown whole) (none_of (shown whole)) (shown rest) in
      let Q : ShapedText s → Type 0 = λ t. IsShownCut falls 0 (shown whole) (none_of (shown whole)) (shown t) in
      (none_of (shown whole), subst P (sym start) (subst Q (sym same) (uncut_start falls (shown whole) (result_whole whole))))
  from_shown c whole rest (inr is) may order =
      let first = some_number (state_of is.earlier.text).origins is.cut.texts.broken.early_some in
      let low = is.cut.texts.broken.below first.0 first.1 in
      let inner : c ≢ 0 = λ e. absurd (omega (arith, low, e)) in
      (shown is.earlier, cut_shown c whole is.earlier rest is.cut (may inner) order)

  -- the text up to a byte
  to_shown : (c end : ℕ) (whole front : ShapedText s) → IsUpTo s c end whole front → ((n : ℕ) → Has (numbers (state_of whole.text).origins) n → n < end) → (c ≢ end → MayBeCutAt c (shown whole)) → Ordered (shown whole)
      → (late : BufferState) × IsShownCut falls c (shown whole) (shown front) late
  to_shown c end whole front (inl (stop, same)) within may order =
      let P : ℕ → Type 0 = λ n. IsShownCut falls n (shown whole) (shown front) (none_of (shown whole)) in
      let Q : ShapedText s → Type 0 = λ t. IsShownCut falls end (shown whole) (shown t) (none_of (shown whole)) in
      (none_of (shown whole), subst P (sym stop) (subst Q (sym same) (uncut_end falls end (shown whole) (result_whole whole) (λ n has. within n (brought whole n has)))))
  to_shown c end whole front (inr is) within may order =
      let last = some_number (state_of is.later.text).origins is.cut.texts.broken.late_some in
      let high = is.cut.texts.broken.above last.0 last.1 in
      let under = within last.0 (subst (λ ns. Has ns last.0) (sym is.cut.texts.broken.clusters) (has_right last.0 (numbers (state_of front.text).origins) (numbers (state_of is.later.text).origins) last.1)) in
      let inner : c ≢ end = λ e. absurd (omega (arith, high, under, e)) in
      (shown is.later, cut_shown c whole front is.later is.cut (may inner) order)

-- ---- lines

-- a line has bytes, which end within the text
abbrev IsInText : ℕ → Line → Type 0
IsInText end l = (l.start < l.end) × (l.end ≤ end)

joined_rises : (from to : ℕ) (ls : List Line) → AreJoined from to (map byte_range ls) → from ≤ to
joined_rises from to [] joined = omega (arith, joined)
joined_rises from to (l ∷ ls) joined =
    let first = joined.0 in
    let some = joined.1 in
    let rest = joined_rises l.end to ls joined.2 in
    omega (arith, first, some, rest)

joined_within : (from to : ℕ) (ls : List Line) → AreJoined from to (map byte_range ls) → All (IsInText to) ls
joined_within from to [] joined = All-nil (IsInText to)
joined_within from to (l ∷ ls) joined = All-cons (IsInText to) l ls (joined.1, joined_rises l.end to ls joined.2) (joined_within l.end to ls joined.2)

-- a text that is cut out of another one between two safe breaks has its glyphs there
pub own_range : SafeBreaks → TextsKeepNumbers → (s : Setup) (d : Direction) (end start stop : ℕ) (whole rest line : ShapedText s) (r : GlyphRange) → AsciiHasNoMarks → IsInLine d whole.result → start < stop → stop ≤ end
    → is_safe_at (text_steps d whole.result) end start ≡ true → is_safe_at (text_steps d whole.result) end stop ≡ true → HasExactly (clusters (all_glyphs whole.result)) (start, stop) r
    → ((n : ℕ) → Has (clusters (all_glyphs whole.text)) n → n < end) → IsFrom s start whole rest → IsUpTo s stop end rest line → HasGlyphsOf whole.result r line.result × HasClustersOf whole.result r line.result
own_range law keeps s d end start stop whole rest line r ascii along some most early_safe late_safe exact bytes from to =
    let falls = is_backward d in
    let same = origin_numbers (all_glyphs whole.result) in
    let order : IsInOrder falls (numbers (state_of whole.result).origins) = subst (IsInOrder falls) (sym same) along.order in
    let early_may : start ≢ 0 → MayBeCutAt start (state_of whole.result) = λ first. safe_may d whole.result end start whole.is.placed first (λ e. absurd (omega (arith, some, most, e))) early_safe in
    let late_may : stop ≢ end → MayBeCutAt stop (state_of whole.result) = λ last. safe_may d whole.result end stop whole.is.placed (λ e. absurd (omega (arith, some, e))) last late_safe in
    let first = from_shown law keeps ascii s falls start whole rest from early_may order in
    let within = from_within s start end whole rest from (λ n has. bytes n (subst (λ ns. Has ns n) (origin_numbers (all_glyphs whole.text)) has)) in
    let second = to_shown law keeps ascii s falls stop end rest line to within (λ last. rest_may falls start stop (state_of whole.result) first.0 (state_of rest.result) first.1 (omega (arith, some)) (late_may last))
    (rest_order falls start (state_of whole.result) first.0 (state_of rest.result) first.1 order) in
    let range = line_range falls start stop (state_of whole.result) first.0 (state_of rest.result) (state_of line.result) second.0 first.1 second.1 (omega (arith, some)) r.start r.end exact.ordered
    (subst (λ (ns : List ℕ). r.end ≤ length ns) (sym same) exact.within) (λ k n at. exact.exact k n (ap (λ ns. slice_get ns k) (sym same) ∙ at)) in
    (record { glyphs = range.glyphs; positions = range.positions }, ap (λ ns. slice_range ns r.start r.end) (sym same) ∙ range.clusters ∙ origin_numbers (all_glyphs line.result))

pub own_lines : SafeBreaks → TextsKeepNumbers → OwnLinesAreShapedAlone
own_lines law keeps s d end breaks widths whole line ls l r ascii has text =
    let p = paragraph_by d whole.result end breaks widths in
    let inside : IsInText end l = All-contains (IsInText end) ls l (joined_within 0 end ls has.lines.joined) has.among in
    let is : IsLine p l = All-contains (IsLine p) ls l has.lines.each has.among in
    let glyphs : AreGlyphsOf p l (Some r) = subst (AreGlyphsOf p l) has.own is.glyphs in
    let safe = and_parts (is_safe_at p.steps end l.start) (is_safe_at p.steps end l.end) glyphs.0 in
    own_range law keeps s d end l.start l.end whole text.rest line r ascii has.line inside.0 inside.1 safe.0 safe.1 glyphs.1 text.bytes text.from text.to

-- ---- texts that differ only in clusters, level and requests for glyph flags

same_view : (reading : Reading) (a b x y : BufferState) → Follows reading a x → Follows reading b y → x.view ≡ y.view
same_view (Ok r) a b x y first second = ap (λ (s : BufferState). s.view) first ∙ sym (ap (λ (s : BufferState). s.view) second)
same_view (Err e) a b x y first second = absurd first

-- and the results of two such texts
pub alike_view : TextsReadAlike → (s : Setup) (one other : ShapedText s) → have_no_ranges s.features ≡ true → AreAlike one.text other.text → view_of one.result ≡ view_of other.result
alike_view alike s one other plain like =
    let read = alike s.font s.tables s.tags s.spans s.features one.text other.text plain like in
    let P : Reading → Type 0 = λ ρ. Follows ρ (state_of one.text) (state_of one.result) in
    same_view (text_reading (shaping_of s other.text) (state_of other.text)) (state_of one.text) (state_of other.text) (state_of one.result) (state_of other.result) (subst P read one.shaped) other.shaped

pub own_lines_look : OwnLinesAreShapedAlone → TextsReadAlike → OwnLinesLookAlike
own_lines_look law alike s d end breaks widths whole line other ls l r ascii has text plain like =
    let is = (law s d end breaks widths whole line ls l r ascii has text).0 in
    let same = alike_view alike s line other plain like in
    record { glyphs = is.glyphs ∙ ap (λ (v : View). glyph_numbers v.items) same; positions = is.positions ∙ ap (λ (v : View). v.positions) same }
