-- Graphemes that are merged, or are one character each, may be turned.
use Rattle.std.proofs.Common.{ℕ, ◌≡◌, ◌≤◌, ◌<◌, ◌+◌, ◌*◌, ◌%◌, ◌==◌, ◌||◌, ◌&&◌, ◌++◌, not, Bool, true, false, if◌then◌else◌, nat_le, eqb-true, List, [], ◌∷◌, length, map, Option, None, Some, Ok, Err, arith, refl, sym, ap, subst, ◌∙◌}
use Rattle.std.specs.Int.{bit_at}
use Rattle.std.specs.Int.RustNames.{bit_and, bit_or}
use Rattle.buffer_glyphs.specs.declared.cause.ShapeCause.TheVariants.{TooLong}
use Rattle.std.proofs.lemmas.Bool.Decides.{nat_tests}
use Rattle.std.proofs.lemmas.Grind.{common_steps}
use Rattle.std.proofs.lemmas.List.{append-nil, length-map}
use Rattle.std.proofs.lemmas.List.Sums.{fold-append}
use Rattle.std.proofs.lemmas.Nat.{and_block, and_mask}
use Rattle.std.proofs.lemmas.Nat.Bits.{bit_at_lowest, bit_at_or}
use Rattle.unicode.specs.GeneralCategory.{general_category}
use Rattle.buffer_common.specs.Direction.{opposite}
use Rattle.buffer_common.specs.declared.direction.Direction.{Direction}
use Rattle.buffer_common.specs.declared.direction.Direction.TheVariants.{Invalid, LeftToRight, RightToLeft, TopToBottom, BottomToTop}
use Rattle.buffer_common.specs.declared.script.Script.{Script}
use Rattle.buffer_unicode.specs.Category.{category_number}
use Rattle.buffer_unicode.specs.Character.{is_default_ignorable_character}
use Rattle.buffer_unicode_tables.specs.Lawful.{AsciiHasNoMarks}
use Rattle.buffer_unicode_tables.specs.Tables.{Tables, is_pictographic}
use Rattle.buffer_glyphs.specs.declared.level.BufferClusterLevel.{BufferClusterLevel}
use Rattle.buffer_glyphs.specs.declared.level.BufferClusterLevel.TheVariants.{MonotoneGraphemes, MonotoneCharacters, Characters, Graphemes}
use Rattle.buffer_glyphs.specs.EventParts.{parts_of}
use Rattle.buffer_glyphs.specs.Events.{Event, Arrange, Circle, IsPlain, MergeGrapheme, Reverse, origins_after_event}
use Rattle.buffer_glyphs.specs.Items.{Item}
use Rattle.buffer_glyphs.specs.Levels.{IsMonotone}
use Rattle.buffer_glyphs.specs.Order.{IsOrdered, falls_after}
use Rattle.buffer_glyphs.specs.Origins.{Asks, Origin, numbers}
use Rattle.buffer_lists.specs.Events.{group_events, indices_reversed}
use Rattle.buffer_lists.proofs.Lemmas.ReversedEvents.{length_reversed_indices, events_plain as moves_plain, length_reversed_indices as reversed_many}
use Rattle.buffer_lists.specs.Turning.{groups, groups_reversed_list, in_front}
use Rattle.buffer_parts.specs.Counts.{AreGiving, count_after, count_after_event}
use Rattle.buffer_parts.specs.Groups.{AreSingle, arranges_from, merges_from}
use Rattle.buffer_parts.specs.Keeping.{AreKept}
use Rattle.buffer_parts.specs.Orderly.{IsOrderly}
use Rattle.buffer_parts.specs.Turns.{IsUnturned}
use Rattle.buffer_parts.specs.Lemmas.Counts.{giving_is_giving}
use Rattle.buffer_parts.specs.Lemmas.Groups.{merged_groups_may_turn, one_groups_may_turn, single_groups_are_one}
use Rattle.buffer_parts.specs.Lemmas.Keeping.{plain_is_kept}
use Rattle.buffer_parts.specs.Lemmas.Orderly.{plain_is_orderly}
use Rattle.buffer_parts.specs.Lemmas.Plainly.{steady_count, steady_giving, steady_kept, steady_plain, steady_unturned, both_give, both_plain}
use Rattle.buffer_parts.specs.Lemmas.Turns.{turns_add_up, unturned_keeps_side}
use Rattle.buffer_core.specs.Graphemes.{continues as continues_item}
use Rattle.buffer_core.specs.Readings.{View, Read, Reading, always, with_events}
use Rattle.buffer_stages.specs.Lemmas.Sorted.{groups_turned_size}
use Rattle.buffer_parts.specs.Lemmas.Stages.{at_read}
use Rattle.buffer_properties.specs.Properties.{bit_if, is_hidden_character, is_mark_character, properties_of, scratch_flags_of}
use Rattle.buffer_properties.proofs.PropertyWords.{category_fits}
use Rattle.buffer_properties.proofs.Words.{at_most_one, word_of}
use Rattle.shape_text.specs.declared.graphemes.Before.{Before}
use Rattle.shape_text.specs.Circle.{DOTTED_CIRCLE, needs_circle, with_circle}
use Rattle.shape_text.specs.Clusters.{grapheme_events, grapheme_lengths, has_non_ascii, with_clusters}
use Rattle.shape_text.specs.Graphemes.{continues, is_emoji_modifier, is_extender, is_joined, is_other_extender, is_regional_indicator}
use Rattle.buffer_stages.specs.LayoutStages.{merges_graphemes}
use Rattle.shape_text.specs.NativeOrder.{continues_grapheme, is_number_text, is_reversed, native_order, reversed_text, runs_against, script_direction, with_numbers, without_continuation}
use Rattle.shape_text.specs.Properties.{items_prepared, next_before, prepared_item, property_word_of, scratch_flags_of_items, with_properties}
use Rattle.shape_parts.specs.Lines.{falls_on_line}
use Rattle.shape_parts.specs.Graphemes.{HasKnownGraphemes}
use Rattle.shape_parts.specs.Premises.{CountsItems}
use Rattle.shape_parts.specs.StageLaws.{GraphemesAreKnown, GraphemesKeepFall, GraphemesKeepParts}
use Rattle.shape_parts.proofs.Characters.{circle_view, clusters_steady}
use Rattle.layout_match.proofs.Lemmas.Idle.{or_none as two_false}
use Rattle.buffer_facts.proofs.Truth.{lacks_second as last_false}
use Rattle.buffer_facts.proofs.Numbers.{zero_by_test as clear_of}

-- ---- the events of a turn

turn_giving : (merge : Bool) (at : ℕ) (lens : List ℕ) → AreGiving (group_events merge at lens ++ Reverse ∷ [])
turn_giving merge at [] = tt
turn_giving true at (n ∷ lens) = turn_giving true (at + n) lens
turn_giving false at (n ∷ lens) = turn_giving false (at + n) lens

turn_count : (merge : Bool) (at : ℕ) (lens : List ℕ) (n : ℕ) → count_after (group_events merge at lens ++ Reverse ∷ []) n ≡ n
turn_count merge at [] n = refl
turn_count true at (k ∷ lens) n = turn_count true (at + k) lens n
turn_count false at (k ∷ lens) n = turn_count false (at + k) lens n

groups_unturned : (merge : Bool) (at : ℕ) (lens : List ℕ) → IsUnturned (group_events merge at lens)
groups_unturned merge at [] = tt
groups_unturned true at (n ∷ lens) = groups_unturned true (at + n) lens
groups_unturned false at (n ∷ lens) = groups_unturned false (at + n) lens

are_arranges : (at : ℕ) (lens : List ℕ) → group_events false at lens ≡ arranges_from indices_reversed at lens
are_arranges at [] = refl
are_arranges at (n ∷ lens) = ap (λ es. Arrange at (indices_reversed n) ∷ es) (are_arranges (at + n) lens)

-- at the level MonotoneGraphemes the merges of graphemes are merges of ranges
are_merges : (asks : Asks) (at : ℕ) (lens : List ℕ) (es : List Event) (os : List Origin) → IsOrderly asks MonotoneGraphemes (merges_from at lens ++ es) os → IsOrderly asks MonotoneGraphemes (grapheme_events MonotoneGraphemes at lens ++ es) os
are_merges asks at [] es os h = h
are_merges asks at (n ∷ lens) es os h = (tt, are_merges asks (at + n) lens es (origins_after_event asks MonotoneGraphemes os (MergeGrapheme at (at + n))) h.1)

-- ---- graphemes turned

-- at a monotone level the clusters of graphemes, and then their turn, are orderly
turn_orderly : (asks : Asks) (level : BufferClusterLevel) (wide : Bool) (lens : List ℕ) (os : List Origin) → IsMonotone level → IsOrdered (numbers os) → (wide ≡ false → AreSingle lens)
    → IsOrderly asks level ((if wide then grapheme_events level 0 lens else []) ++ (group_events (merges_graphemes level) 0 lens ++ Reverse ∷ [])) os
turn_orderly asks MonotoneGraphemes true lens os mono o single =
    are_merges asks 0 lens (group_events false 0 lens ++ Reverse ∷ []) os
    (subst (λ (es : List Event). IsOrderly asks MonotoneGraphemes (merges_from 0 lens ++ (es ++ Reverse ∷ [])) os) (sym (are_arranges 0 lens)) (merged_groups_may_turn indices_reversed asks MonotoneGraphemes 0 lens os reversed_many mono o))
turn_orderly asks MonotoneGraphemes false lens os mono o single =
    subst (λ (es : List Event). IsOrderly asks MonotoneGraphemes (es ++ Reverse ∷ []) os) (sym (are_arranges 0 lens)) (one_groups_may_turn indices_reversed asks MonotoneGraphemes 0 lens os reversed_many (single_groups_are_one 0 lens (numbers os) (single refl)))
turn_orderly asks MonotoneCharacters wide lens os mono o single =
    let clusters = if wide then grapheme_events MonotoneCharacters 0 lens else [] in
    plain_is_orderly asks MonotoneCharacters (clusters ++ (group_events true 0 lens ++ Reverse ∷ [])) os (both_plain clusters (group_events true 0 lens ++ Reverse ∷ []) (steady_plain clusters (clusters_steady wide MonotoneCharacters lens)) (moves_plain 0 lens))
turn_orderly asks Characters wide lens os mono o single = absurd mono
turn_orderly asks Graphemes wide lens os mono o single = absurd mono

turn_kept : (level : BufferClusterLevel) (wide : Bool) (lens : List ℕ) (n : ℕ) → (wide ≡ false → AreSingle lens)
    → AreKept level ((if wide then grapheme_events level 0 lens else []) ++ (group_events (merges_graphemes level) 0 lens ++ Reverse ∷ [])) n n
turn_kept level wide lens n single =
    let clusters = if wide then grapheme_events level 0 lens else [] in
    let turn = group_events (merges_graphemes level) 0 lens ++ Reverse ∷ [] in
    record {
      orderly = λ asks os mono count o. turn_orderly asks level wide lens os mono o single;
      giving = λ falls ns mono count o. giving_is_giving level (clusters ++ turn) ns (both_give clusters turn (steady_giving clusters (clusters_steady wide level lens)) (turn_giving (merges_graphemes level) 0 lens));
      counted = fold-append count_after_event n clusters turn ∙ ap (count_after turn) (steady_count n clusters (clusters_steady wide level lens)) ∙ turn_count (merges_graphemes level) 0 lens n;
    }

-- the clusters of graphemes and the order of the script, as one read
abbrev ordered_read : Option Script → View → Read
ordered_read script v = record {
  view = (native_order script v).view;
  events = λ level. (with_clusters v).events level ++ (native_order script v).events level;
}

-- the text in its script's direction, where it is known whether it is reversed
abbrev ordered_if : Bool → View → Read
ordered_if b v = if b then reversed_text v else with_events [] v

ordered_many : (b : Bool) (v : View) → length (map without_continuation (ordered_if b v).view.items) ≡ length v.items
ordered_many true v = length-map (groups_reversed_list continues_grapheme v.items) without_continuation ∙ groups_turned_size continues_grapheme v.items
ordered_many false v = length-map v.items without_continuation

ordered_kept : (b : Bool) (v : View) (level : BufferClusterLevel) → HasKnownGraphemes v → AreKept level ((with_clusters v).events level ++ ((ordered_if b v).events level ++ [])) (length v.items) (length v.items)
ordered_kept true v level known =
    subst (λ (es : List Event). AreKept level ((with_clusters v).events level ++ es) (length v.items) (length v.items)) (sym (append-nil ((reversed_text v).events level)))
    (turn_kept level (has_non_ascii v.scratch_flags) (grapheme_lengths v.items) (length v.items) known)
ordered_kept false v level known =
    let clusters = (with_clusters v).events level in
    subst (λ (es : List Event). AreKept level es (length v.items) (length v.items)) (sym (append-nil clusters))
    (let k = steady_kept clusters (length v.items) (clusters_steady (has_non_ascii v.scratch_flags) level (grapheme_lengths v.items)) in plain_is_kept level clusters (length v.items) (length v.items) k.plain k.giving k.counted)

-- the order of the script leaves a glyph for each item
pub native_counts : (script : Option Script) → CountsItems (always (native_order script))
native_counts script v r level e =
    let b = is_reversed script v.direction v.items in
    at_read (λ q. count_after (q.events level) (length v.items) ≡ length q.view.items) (native_order script v) r e
    (ap (λ es. count_after es (length v.items)) (append-nil ((ordered_if b v).events level)) ∙ by_turn b ∙ sym (ordered_many b v))
  where
    by_turn : (b : Bool) → count_after ((ordered_if b v).events level) (length v.items) ≡ length v.items
    by_turn true = turn_count (merges_graphemes level) 0 (grapheme_lengths v.items) (length v.items)
    by_turn false = refl

pub graphemes_keep_parts : GraphemesKeepParts
graphemes_keep_parts script v r level known e =
    let b = is_reversed script v.direction v.items in
    at_read (λ q. AreKept level (q.events level) (length v.items) (length q.view.items)) (ordered_read script v) r e
    (subst (λ (n : ℕ). AreKept level ((ordered_read script v).events level) (length v.items) n) (sym (ordered_many b v)) (ordered_kept b v level known))

-- ---- the line

turned_line : (d against : Direction) (falls : Bool) → runs_against d against ≡ true → falls_on_line (not falls) (opposite d) ≡ falls_on_line falls d
turned_line LeftToRight Invalid falls e = cc
turned_line LeftToRight LeftToRight falls e = cc
turned_line LeftToRight TopToBottom falls e = cc
turned_line LeftToRight BottomToTop falls e = cc
turned_line LeftToRight RightToLeft true e = refl
turned_line LeftToRight RightToLeft false e = refl
turned_line RightToLeft Invalid falls e = cc
turned_line RightToLeft RightToLeft falls e = cc
turned_line RightToLeft TopToBottom falls e = cc
turned_line RightToLeft BottomToTop falls e = cc
turned_line RightToLeft LeftToRight falls e = refl
turned_line BottomToTop Invalid falls e = refl
turned_line BottomToTop LeftToRight falls e = refl
turned_line BottomToTop RightToLeft falls e = refl
turned_line BottomToTop TopToBottom falls e = refl
turned_line BottomToTop BottomToTop falls e = refl
turned_line Invalid against falls e = cc
turned_line TopToBottom against falls e = cc

turn_falls : (level : BufferClusterLevel) (merge : Bool) (lens : List ℕ) (falls : Bool) → falls_after falls (parts_of level (group_events merge 0 lens ++ Reverse ∷ [])) ≡ not falls
turn_falls level merge lens falls =
    turns_add_up level (group_events merge 0 lens) (Reverse ∷ []) falls ∙ ap not (unturned_keeps_side level (group_events merge 0 lens) falls (groups_unturned merge 0 lens))

ordered_falls : (b : Bool) (v : View) (level : BufferClusterLevel) (falls : Bool) (against : Direction) → runs_against v.direction against ≡ b
    → falls_on_line (falls_after falls (parts_of level ((with_clusters v).events level ++ ((ordered_if b v).events level ++ [])))) (ordered_if b v).view.direction ≡ falls_on_line falls v.direction
ordered_falls b v level falls against e =
    let clusters = (with_clusters v).events level in
    ap (λ (es : List Event). falls_on_line (falls_after falls (parts_of level (clusters ++ es))) (ordered_if b v).view.direction) (append-nil ((ordered_if b v).events level))
    ∙ ap (λ t. falls_on_line t (ordered_if b v).view.direction) (turns_add_up level clusters ((ordered_if b v).events level) falls)
    ∙ ap (λ t. falls_on_line (falls_after t (parts_of level ((ordered_if b v).events level))) (ordered_if b v).view.direction) (unturned_keeps_side level clusters falls (steady_unturned clusters (clusters_steady (has_non_ascii v.scratch_flags) level (grapheme_lengths v.items))))
    ∙ by_turn b e
  where
    by_turn : (c : Bool) → runs_against v.direction against ≡ c → falls_on_line (falls_after falls (parts_of level ((ordered_if c v).events level))) (ordered_if c v).view.direction ≡ falls_on_line falls v.direction
    by_turn true f = ap (λ t. falls_on_line t (opposite v.direction)) (turn_falls level (merges_graphemes level) (grapheme_lengths v.items) falls) ∙ turned_line v.direction against falls f
    by_turn false f = refl

pub graphemes_keep_fall : GraphemesKeepFall
graphemes_keep_fall script v r level falls mono e =
    at_read (λ q. falls_on_line (falls_after falls (parts_of level (q.events level))) q.view.direction ≡ falls_on_line falls v.direction) (ordered_read script v) r e
    (ordered_falls (is_reversed script v.direction v.items) v level falls (with_numbers (is_number_text v.items) v.direction (script_direction script)) refl)

-- ---- texts of ASCII characters alone

low_bit : (n : ℕ) → bit_and n 1 ≡ bit_at n 0
low_bit n = and_mask n 1 ∙ sym (bit_at_lowest n)

both_clear : (a b : ℕ) → bit_and (bit_or a b) 1 ≡ 0 → (bit_and a 1 ≡ 0) × (bit_and b 1 ≡ 0)
both_clear a b e =
    let whole = low_bit (bit_or a b) in
    let first = low_bit a in
    let second = low_bit b in
    let or = bit_at_or a b 0 in
    (omega (arith, whole, first, or, e), omega (arith, whole, second, or, e))

no_wide_flag : (a b c : Bool) → bit_and (bit_if a 1 + (bit_if b 2 + bit_if c 16)) 1 ≡ 0 → a ≡ false
no_wide_flag false b c e = refl
no_wide_flag true true true e = cc
no_wide_flag true true false e = cc
no_wide_flag true false true e = cc
no_wide_flag true false false e = cc

-- each character is below U+0080
abbrev pub AreAscii : List Item → Type 0
AreAscii [] = Unit {0}
AreAscii (x ∷ xs) = (nat_le 0x80 x.number ≡ false) × AreAscii xs

all_ascii : (xs : List Item) (flags : ℕ) → bit_and (scratch_flags_of_items xs flags) 1 ≡ 0 → (bit_and flags 1 ≡ 0) × AreAscii xs
all_ascii [] flags e = (e, tt)
all_ascii (x ∷ xs) flags e =
    let rest = all_ascii xs (bit_or flags (scratch_flags_of x.number)) e in
    let both = both_clear flags (scratch_flags_of x.number) rest.0 in
    (both.0, (no_wide_flag (nat_le 0x80 x.number) (is_default_ignorable_character x.number) (x.number == 0x034F) both.1, rest.1))

-- no item continues the grapheme of the one before
abbrev pub AllBegin : List Item → Type 0
AllBegin [] = Unit {0}
AllBegin (x ∷ xs) = (continues_item x ≡ false) × AllBegin xs

-- the first item of the first group begins a grapheme
abbrev FirstBegins : List (List Item) → Type 0
FirstBegins [] = Unit {0}
FirstBegins ([] ∷ gs) = Unit {0}
FirstBegins ((y ∷ ys) ∷ gs) = continues_item y ≡ false

in_front_single : (x : Item) (gs : List (List Item)) → continues_item x ≡ false → FirstBegins gs → AreSingle (map (λ ys. length ys) gs)
    → AreSingle (map (λ ys. length ys) (in_front (λ a b. continues_item b) x gs)) × FirstBegins (in_front (λ a b. continues_item b) x gs)
in_front_single x [] e f s = ((omega arith, tt), e)
in_front_single x ([] ∷ gs) e f s = ((omega arith, s.1), e)
in_front_single x ((y ∷ ys) ∷ gs) e f s = by_test (continues_item y) f
  where
    by_test : (b : Bool) → b ≡ false → AreSingle (map (λ zs. length zs) (if b then (x ∷ y ∷ ys) ∷ gs else (x ∷ []) ∷ (y ∷ ys) ∷ gs)) × FirstBegins (if b then (x ∷ y ∷ ys) ∷ gs else (x ∷ []) ∷ (y ∷ ys) ∷ gs)
    by_test true g = cc
    by_test false g = ((omega arith, s), e)

groups_single : (xs : List Item) → AllBegin xs → AreSingle (grapheme_lengths xs) × FirstBegins (groups (λ a b. continues_item b) xs)
groups_single [] h = (tt, tt)
groups_single (x ∷ xs) h = let rest = groups_single xs h.1 in in_front_single x (groups (λ a b. continues_item b) xs) h.0 rest.1 rest.0

above_ascii : (k u : ℕ) → nat_le 0x80 u ≡ false → 0x80 ≤ k → nat_le k u ≡ false
above_ascii k u e le = grind (arith, nat_tests, common_steps, e, le)

not_ascii : (k u : ℕ) → nat_le 0x80 u ≡ false → 0x80 ≤ k → (u == k) ≡ false
not_ascii k u e le = grind (arith, nat_tests, common_steps, e, le)

is_below : (u : ℕ) → nat_le 0x80 u ≡ false → u < 0x80
is_below u e = grind (arith, nat_tests, e)

four_false : (a b c d : Bool) → a ≡ false → b ≡ false → c ≡ false → d ≡ false → (a || b || c || d) ≡ false
four_false a b c d p q r s = rw (p, q, r, s) refl

no_extender : (u : ℕ) → AsciiHasNoMarks → nat_le 0x80 u ≡ false → is_extender u ≡ false
no_extender u law e =
    four_false (is_mark_character u) (is_emoji_modifier u) (u == 0x200D) (is_other_extender u) (law u (is_below u e)) (first_false (above_ascii 0x1F3FB u e (omega arith))) (not_ascii 0x200D u e (omega arith))
    (two_false (nat_le 0xFF9E u && nat_le u 0xFF9F) (nat_le 0xE0020 u && nat_le u 0xE007F) (half_false (above_ascii 0xFF9E u e (omega arith))) (other_false (above_ascii 0xE0020 u e (omega arith))))
  where
    first_false : nat_le 0x1F3FB u ≡ false → is_emoji_modifier u ≡ false
    first_false f = rw f refl

    half_false : nat_le 0xFF9E u ≡ false → (nat_le 0xFF9E u && nat_le u 0xFF9F) ≡ false
    half_false f = rw f refl

    other_false : nat_le 0xE0020 u ≡ false → (nat_le 0xE0020 u && nat_le u 0xE007F) ≡ false
    other_false f = rw f refl

not_joined : (t : Tables) (before : Before) (u : ℕ) → nat_le 0x80 before.character ≡ false → nat_le 0x80 u ≡ false → is_joined t before u ≡ false
not_joined t before u e f =
    two_false (is_regional_indicator u && is_regional_indicator before.character && not before.continues) (is_pictographic t u && before.character == 0x200D) (flag_false (above_ascii 0x1F1E6 u f (omega arith)))
    (last_false (is_pictographic t u) (before.character == 0x200D) (not_ascii 0x200D before.character e (omega arith)))
  where
    flag_false : nat_le 0x1F1E6 u ≡ false → (is_regional_indicator u && is_regional_indicator before.character && not before.continues) ≡ false
    flag_false g = rw g refl

-- the character before, if there is one, is below U+0080
abbrev IsBeforeAscii : Option Before → Type 0
IsBeforeAscii None = Unit {0}
IsBeforeAscii (Some b) = nat_le 0x80 b.character ≡ false

not_continued : (t : Tables) (before : Option Before) (u : ℕ) → AsciiHasNoMarks → IsBeforeAscii before → nat_le 0x80 u ≡ false → continues t before u ≡ false
not_continued t None u law b e = no_extender u law e
not_continued t (Some before) u law b e = two_false (is_extender u) (is_joined t before u) (no_extender u law e) (not_joined t before u b e)

pub no_middle_bit : (n a h j k : ℕ) → n < 32 → a ≤ 1 → h ≤ 1 → bit_and (n + (32 * a + (64 * h + (256 * j + 512 * k)))) 128 ≡ 0
no_middle_bit n a h j k p q r =
    let upper = 2 * j + 4 * k in
    let lower = n + (32 * a + 64 * h) in
    let below : lower < 128 = omega (arith, p, q, r) in
    let zero_below : 0 < 128 = omega arith in
    let cut : n + (32 * a + (64 * h + (256 * j + 512 * k))) ≡ upper * 128 + lower = omega arith in
    let blocks : bit_and (upper * 128 + lower) 128 ≡ bit_and upper 1 * 128 + bit_and lower 0 = and_block 7 upper 1 lower 0 below zero_below in
    let one : bit_and upper 1 ≡ upper % 2 = and_mask upper 1 in
    let none : bit_and lower 0 ≡ lower % 1 = and_mask lower 0 in
    let even : upper % 2 ≡ 0 = omega arith in
    rw cut (rw blocks (omega (arith, one, none, even)))

pub alone_word : (u : ℕ) → bit_and (properties_of u) 0x80 ≡ 0
alone_word u =
    ap (λ w. bit_and w 0x80) (word_of u)
    ∙ no_middle_bit (category_number (general_category u)) (bit_if (is_default_ignorable_character u) 1) (bit_if (is_hidden_character u) 1) (bit_if (u == 0x200D) 1) (bit_if (u == 0x200C) 1) (category_fits (general_category u)) (at_most_one (is_default_ignorable_character u)) (at_most_one (is_hidden_character u))

begins : (t : Tables) (b : Bool) (x : Item) → b ≡ false → continues_item (prepared_item t b x) ≡ false
begins t b x e =
    ap (λ c. not (bit_and (property_word_of c x.number) 0x80 == 0)) e ∙ ap (λ n. not (n == 0)) (alone_word x.number)

all_begin : (t : Tables) (before : Option Before) (xs : List Item) → AsciiHasNoMarks → IsBeforeAscii before → AreAscii xs → AllBegin (items_prepared t before xs)
all_begin t before [] law b h = tt
all_begin t before (x ∷ xs) law b h =
    (begins t (continues t before x.number) x (not_continued t before x.number law b h.0), all_begin t (Some (next_before t before x.number)) xs law h.0 h.1)

prepared_known : (t : Tables) (v : View) → AsciiHasNoMarks → HasKnownGraphemes (with_properties t v).view
prepared_known t v law none =
    let ascii = all_ascii v.items v.scratch_flags (clear_of (bit_and (scratch_flags_of_items v.items v.scratch_flags) 1) none) in
    (groups_single (items_prepared t None v.items) (all_begin t None v.items law tt ascii.1)).0

circle_is_wide : (flags : ℕ) → has_non_ascii (bit_or flags (scratch_flags_of DOTTED_CIRCLE)) ≡ false → ⊥
circle_is_wide flags e =
    let clear = clear_of (bit_and (bit_or flags (scratch_flags_of DOTTED_CIRCLE)) 1) e in
    let both = both_clear flags (scratch_flags_of DOTTED_CIRCLE) clear in
    let wide : nat_le 0x80 DOTTED_CIRCLE ≡ false = no_wide_flag (nat_le 0x80 DOTTED_CIRCLE) (is_default_ignorable_character DOTTED_CIRCLE) (DOTTED_CIRCLE == 0x034F) both.1 in
    cc

pub graphemes_are_known : GraphemesAreKnown
graphemes_are_known t font flags context v r law e = by_test (needs_circle flags context font (with_properties t v).view.items) e
  where
    by_test : (b : Bool) → ◌≡◌ {A = Reading} (if b then with_circle t (with_properties t v).view else Ok (with_events [] (with_properties t v).view)) (Ok r) → HasKnownGraphemes r.view
    by_test true f = by_room (nat_le (length (with_properties t v).view.items + 1) (with_properties t v).view.max_len) f
      where
        by_room : (b : Bool) → ◌≡◌ {A = Reading} (if b then Ok (with_events (Circle false 0 0 ∷ []) (circle_view t (with_properties t v).view)) else Err TooLong) (Ok r) → HasKnownGraphemes r.view
        by_room true g = at_read (λ q. HasKnownGraphemes q.view) (with_events (Circle false 0 0 ∷ []) (circle_view t (with_properties t v).view)) r g (λ none. absurd (circle_is_wide (with_properties t v).view.scratch_flags none))
        by_room false g = cc
    by_test false f = at_read (λ q. HasKnownGraphemes q.view) (with_events [] (with_properties t v).view) r f (prepared_known t v law)
