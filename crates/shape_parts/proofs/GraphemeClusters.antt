-- At the level Graphemes the clusters of a shaped text are first ones of its graphemes.
use Rattle.std.proofs.Common.{ℕ, suc, ◌≡◌, ◌≤◌, ◌+◌, ◌==◌, Bool, true, false, if◌then◌else◌, nat_le, eqb-true, List, [], ◌∷◌, length, map, Option, None, Some, Ok, Err, arith, refl, sym, ap, subst, ◌∙◌}
use Rattle.std.proofs.lemmas.List.{length-map}
use Rattle.std.specs.Char.{len_utf8}
use Rattle.std.specs.Str.{chars}
use Rattle.buffer_common.specs.declared.constants.BufferFlags.{BufferFlags}
use Rattle.buffer_common.specs.declared.script.Script.{Script}
use Rattle.buffer_glyphs.specs.declared.cause.ShapeCause.TheVariants.{TooLong}
use Rattle.buffer_glyphs.specs.declared.level.BufferClusterLevel.TheVariants.{Graphemes}
use Rattle.buffer_glyphs.specs.Events.{Circle, origins_after}
use Rattle.buffer_glyphs.specs.Items.{Item, clusters, item_masked, item_of, strip}
use Rattle.buffer_glyphs.specs.Order.{BringsNone, IsRising}
use Rattle.buffer_glyphs.specs.Origins.{Asks, Origin, numbers, origin_of, origins_circled, without_marks}
use Rattle.buffer_glyphs.specs.Lemmas.EventParts.{origins_keep_numbers, numbers_reset as numbers_unmarked}
use Rattle.buffer_glyphs.specs.Lemmas.Numbers.{Has}
use Rattle.buffer_glyphs.specs.Lemmas.Origins.{numbers_origins, origins_after_both}
use Rattle.buffer_unicode_tables.specs.Lawful.{AsciiHasNoMarks, IsLawful}
use Rattle.buffer_unicode_tables.specs.Tables.{Tables}
use Rattle.buffer_core.specs.Graphemes.{continues as continues_item}
use Rattle.buffer_core.specs.Readings.{BufferState, Read, Reading, Stage, View, always, and_then, state_after, then_read, then_reading, with_events}
use Rattle.buffer_core.specs.Sides.{all_glyphs, items_of, origins_of, state_of}
use Rattle.buffer_core.specs.Text.{added_glyph, added_text_from, offsets_from}
use Rattle.buffer_lists.specs.Turning.{groups, in_front}
use Rattle.buffer_parts.specs.Lemmas.Stages.{at_read, both_read}
use Rattle.layout_face.specs.declared.parts.FaceParts.{FaceParts}
use Rattle.shape_text.specs.declared.graphemes.Before.{Before}
use Rattle.shape_text.specs.Circle.{circle_like, circled_items, first_circle, needs_circle, with_circle}
use Rattle.shape_text.specs.Clusters.{grapheme_events, grapheme_lengths, has_non_ascii, with_clusters}
use Rattle.shape_text.specs.Graphemes.{continues}
use Rattle.shape_text.specs.Masks.{with_one_mask}
use Rattle.shape_text.specs.NativeOrder.{native_order}
use Rattle.shape_text.specs.Properties.{items_prepared, next_before, prepared_item, with_properties}
use Rattle.shape_pipeline.specs.Chains.{in_order}
use Rattle.shape_pipeline.specs.Characters.{characters_chosen, text_begun}
use Rattle.shape_pipeline.specs.Limits.{initial_view, unshaped_text}
use Rattle.shape_pipeline.specs.Masks.{masks_set, ranges_set}
use Rattle.shape_pipeline.specs.Reading.{after_ranges, before_ranges, clusters_after, reading, shaping_stage}
use Rattle.shape_pipeline.specs.Shaped.{text_reading}
use Rattle.shape_pipeline.specs.Shaping.{Shaping}
use Rattle.shape_parts.specs.Graphemes.{HasKnownGraphemes}
use Rattle.shape_parts.specs.GraphemeLaws.{PushedClustersAreGraphemes, ShapedClustersAreGraphemes, first_numbers, grapheme_numbers}
use Rattle.shape_parts.proofs.Characters.{circle_view, prepared_many}
use Rattle.shape_parts.proofs.Graphemes.{graphemes_are_known}
use Rattle.shape_parts.proofs.GraphemeNumbers.{circle_brings_none, groups_are_all, merges_leave_first, singles_are_first, total}
use Rattle.shape_parts.proofs.Texts.{left_by, pushed_clusters, pushed_rise, result_clusters}
use Rattle.shape_parts.proofs.Parts.{read_as}
use Rattle.buffer_core.proofs.Apart.{items_from as pushed_items}

-- ---- readings that leave numbers of a set

-- a reading leaves only numbers of a set
abbrev LeavesFrom : List ℕ → Asks → List Origin → Read → Type 0
LeavesFrom s asks os r = BringsNone s (numbers (origins_after asks Graphemes (r.events Graphemes) os))

after_both : (s : List ℕ) (asks : Asks) (os : List Origin) (a b : Read) → LeavesFrom s asks (origins_after asks Graphemes (a.events Graphemes) os) b → LeavesFrom s asks os (then_read a b)
after_both s asks os a b h = subst (λ (qs : List Origin). BringsNone s (numbers qs)) (sym (origins_after_both asks Graphemes (a.events Graphemes) (b.events Graphemes) os)) h

-- what follows brings no number
first_alone : (s : List ℕ) (asks : Asks) (os : List Origin) (a b : Read) → LeavesFrom s asks os a → LeavesFrom s asks os (then_read a b)
first_alone s asks os a b h = after_both s asks os a b (λ n k. h n (origins_keep_numbers asks Graphemes (b.events Graphemes) (origins_after asks Graphemes (a.events Graphemes) os) n k))

first_leaves : (s : List ℕ) (asks : Asks) (os : List Origin) (a : Reading) (t : Stage) (r : Read) → and_then a t ≡ Ok r → ((b : Read) → a ≡ Ok b → LeavesFrom s asks os b) → LeavesFrom s asks os r
first_leaves s asks os a t r e h =
    let two = both_read a t r e in
    subst (LeavesFrom s asks os) two.both (first_alone s asks os two.first two.second (h two.first two.first_is))

always_first : (s : List ℕ) (asks : Asks) (os : List Origin) (f : View → Read) (t : Stage) (v : View) (r : Read) → and_then (always f v) t ≡ Ok r
    → ((b : Read) → t (f v).view ≡ Ok b → LeavesFrom s asks (origins_after asks Graphemes ((f v).events Graphemes) os) b) → LeavesFrom s asks os r
always_first s asks os f t v r e next = by_second (t (f v).view) refl e
  where
    by_second : (b : Reading) → t (f v).view ≡ b → then_reading (f v) b ≡ Ok r → LeavesFrom s asks os r
    by_second (Ok b) g h = at_read (LeavesFrom s asks os) (then_read (f v) b) r h (after_both s asks os (f v) b (next b g))
    by_second (Err c) g h = cc

-- ---- items with their properties

pub front_mapped : {X : Type 0} (p : X → X → Bool) (g : X → X) → ((a b : X) → p (g a) (g b) ≡ p a b) → (x : X) (gs : List (List X)) → in_front p (g x) (map (map g) gs) ≡ map (map g) (in_front p x gs)
front_mapped p g same x [] = refl
front_mapped p g same x ([] ∷ gs) = refl
front_mapped p g same x ((y ∷ ys) ∷ gs) = rw (same x y) (elim (p x y) as (λ b. (if b then (g x ∷ g y ∷ map g ys) ∷ map (map g) gs else (g x ∷ []) ∷ (g y ∷ map g ys) ∷ map (map g) gs) ≡ map (map g) (if b then (x ∷ y ∷ ys) ∷ gs else (x ∷ []) ∷ (y ∷ ys) ∷ gs)) [ true ↦ refl | false ↦ refl ])

pub groups_mapped : {X : Type 0} (p : X → X → Bool) (g : X → X) → ((a b : X) → p (g a) (g b) ≡ p a b) → (xs : List X) → groups p (map g xs) ≡ map (map g) (groups p xs)
groups_mapped p g same [] = refl
groups_mapped p g same (x ∷ xs) = ap (in_front p (g x)) (groups_mapped p g same xs) ∙ front_mapped p g same x (groups p xs)

pub lengths_mapped : {X : Type 0} (g : X → X) (gs : List (List X)) → map (λ ys. length ys) (map (map g) gs) ≡ map (λ ys. length ys) gs
lengths_mapped g [] = refl
lengths_mapped g (ys ∷ gs) = rw (length-map ys g, lengths_mapped g gs) refl

masked_prepared : (t : Tables) (before : Option Before) (m : ℕ) (xs : List Item) → items_prepared t before (map (item_masked m) xs) ≡ map (item_masked m) (items_prepared t before xs)
masked_prepared t before m [] = refl
masked_prepared t before m (x ∷ xs) = ap (λ ys. item_masked m (prepared_item t (continues t before x.number) x) ∷ ys) (masked_prepared t (Some (next_before t before x.number)) m xs)

-- masks leave the graphemes as they are
masked_graphemes : (t : Tables) (m : ℕ) (xs : List Item) → grapheme_lengths (items_prepared t None (map (item_masked m) xs)) ≡ grapheme_lengths (items_prepared t None xs)
masked_graphemes t m xs =
    let ys = items_prepared t None xs in
    ap grapheme_lengths (masked_prepared t None m xs)
    ∙ ap (map (λ zs. length zs)) (groups_mapped (λ a b. continues_item b) (item_masked m) (λ a b. refl) ys)
    ∙ lengths_mapped (item_masked m) (groups (λ a b. continues_item b) ys)

-- ---- a circle before the first character

-- origins are ready for the merges of their graphemes
record AreForming (s : List ℕ) (xs : List Item) (os : List Origin) : Type 0 where
  rises : IsRising (numbers os)
  counted : length (numbers os) ≤ total (grapheme_lengths xs)
  first : BringsNone s (first_numbers (grapheme_lengths xs) (numbers os))

all_counted : (xs : List Item) (os : List Origin) → length os ≡ length xs → length (numbers os) ≤ total (grapheme_lengths xs)
all_counted xs os many =
    let all = groups_are_all (λ a b. continues_item b) xs in
    let ns = length-map os (λ (o : Origin). o.cluster) in
    omega (arith, all, ns, many)

circle_rises : (os : List Origin) → IsRising (numbers os) → IsRising (numbers (origins_circled false 0 0 os))
circle_rises [] h = tt
circle_rises (o ∷ os) h = ((omega arith, h.0), h)

circle_many : (t : Tables) (xs : List Item) (os : List Origin) → length os ≡ length xs → length (origins_circled false 0 0 os) ≡ length (circled_items t xs)
circle_many t [] [] many = refl
circle_many t [] (o ∷ os) many = absurd (omega (arith, many))
circle_many t (x ∷ xs) [] many = absurd (omega (arith, many))
circle_many t (x ∷ xs) (o ∷ os) many = ap suc many

circle_first : (t : Tables) (xs : List Item) (os : List Origin) → length os ≡ length xs
    → BringsNone (first_numbers (grapheme_lengths xs) (numbers os)) (first_numbers (grapheme_lengths (circled_items t xs)) (numbers (origins_circled false 0 0 os)))
circle_first t [] os many = λ n h. cc
circle_first t (x ∷ xs) [] many = absurd (omega (arith, many))
circle_first t (x ∷ xs) (o ∷ os) many = circle_brings_none (λ a b. continues_item b) (circle_like t x) x xs o.cluster (numbers os)

circled : (t : Tables) (font : FaceParts) (flags : BufferFlags) (context : List ℕ) (v : View) (s : List ℕ) (asks : Asks) (os : List Origin) (r : Read) → length os ≡ length v.items → AreForming s v.items os → first_circle t font flags context v ≡ Ok r
    → AreForming s r.view.items (origins_after asks Graphemes (r.events Graphemes) os)
circled t font flags context v s asks os r many forming e = by_test (needs_circle flags context font v.items) e
  where
    with_it : AreForming s (circled_items t v.items) (origins_circled false 0 0 os)
    with_it = record {
      rises = circle_rises os forming.rises;
      counted = all_counted (circled_items t v.items) (origins_circled false 0 0 os) (circle_many t v.items os many);
      first = λ n h. forming.first n (circle_first t v.items os many n h);
    }

    by_test : (b : Bool) → ◌≡◌ {A = Reading} (if b then with_circle t v else Ok (with_events [] v)) (Ok r) → AreForming s r.view.items (origins_after asks Graphemes (r.events Graphemes) os)
    by_test true f = by_room (nat_le (length v.items + 1) v.max_len) f
      where
        by_room : (b : Bool) → ◌≡◌ {A = Reading} (if b then Ok (with_events (Circle false 0 0 ∷ []) (circle_view t v)) else Err TooLong) (Ok r) → AreForming s r.view.items (origins_after asks Graphemes (r.events Graphemes) os)
        by_room true g = at_read (λ q. AreForming s q.view.items (origins_after asks Graphemes (q.events Graphemes) os)) (with_events (Circle false 0 0 ∷ []) (circle_view t v)) r g with_it
        by_room false g = cc
    by_test false f = at_read (λ q. AreForming s q.view.items (origins_after asks Graphemes (q.events Graphemes) os)) (with_events [] v) r f forming

-- ---- the merges of graphemes

formed : (s : List ℕ) (asks : Asks) (v : View) (os : List Origin) → HasKnownGraphemes v → AreForming s v.items os → LeavesFrom s asks os (with_clusters v)
formed s asks v os known forming = by_test (has_non_ascii v.scratch_flags) refl
  where
    by_test : (b : Bool) → has_non_ascii v.scratch_flags ≡ b → BringsNone s (numbers (origins_after asks Graphemes (if b then grapheme_events Graphemes 0 (grapheme_lengths v.items) else []) os))
    by_test true e = let long = forming.counted in merges_leave_first asks s 0 (grapheme_lengths v.items) os forming.rises (λ n h. cc) forming.first (omega (arith, long))
    by_test false e = λ n h. forming.first n (singles_are_first (grapheme_lengths v.items) (numbers os) (known e) forming.counted n h)

abbrev ordered_last : Option Script → Stage
ordered_last script = in_order (always with_clusters ∷ always (native_order script) ∷ [])

ordered : (s : List ℕ) (asks : Asks) (script : Option Script) (v : View) (os : List Origin) (r : Read) → HasKnownGraphemes v → AreForming s v.items os → ordered_last script v ≡ Ok r → LeavesFrom s asks os r
ordered s asks script v os r known forming e =
    first_leaves s asks os (always with_clusters v) (in_order (always (native_order script) ∷ [])) r e (λ b f. at_read (LeavesFrom s asks os) (with_clusters v) b f (formed s asks v os known forming))

prepared : (t : Tables) (font : FaceParts) (flags : BufferFlags) (context : List ℕ) (script : Option Script) (v : View) (s : List ℕ) (asks : Asks) (os : List Origin) (r : Read) → AsciiHasNoMarks
    → length os ≡ length v.items → AreForming s (items_prepared t None v.items) os → in_order (first_circle t font flags context ∷ always with_clusters ∷ always (native_order script) ∷ []) (with_properties t v).view ≡ Ok r → LeavesFrom s asks os r
prepared t font flags context script v s asks os r law many forming e =
    let w = (with_properties t v).view in
    let two = both_read (first_circle t font flags context w) (ordered_last script) r e in
    let ready = circled t font flags context w s asks os two.first (many ∙ sym (prepared_many t None v.items)) forming two.first_is in
    subst (LeavesFrom s asks os) two.both
    (after_both s asks os two.first two.second (ordered s asks script two.first.view (origins_after asks Graphemes (two.first.events Graphemes) os) two.second (graphemes_are_known t font flags context v two.first law two.first_is) ready two.second_is))

-- ---- the first pipeline stage

begun : (p : Shaping) (v : View) (asks : Asks) (os : List Origin) (r : Read) → IsLawful p.tables → IsRising (numbers os) → length os ≡ length v.items → text_begun p v ≡ Ok r → LeavesFrom (grapheme_numbers p.tables v.items (numbers os)) asks os r
unfolding text_begun
begun p v asks os r law rise many e =
    let t = p.tables in
    let m = p.map.global_mask in
    let s = grapheme_numbers t v.items (numbers os) in
    let circle = first_circle t p.font p.settings.flags p.settings.pre_context in
    let from_circle = in_order (circle ∷ always with_clusters ∷ always (native_order p.settings.script) ∷ []) in
    let from_properties = in_order (always (with_properties t) ∷ circle ∷ always with_clusters ∷ always (native_order p.settings.script) ∷ []) in
    let from_masks = in_order (always (with_one_mask m) ∷ always (with_properties t) ∷ circle ∷ always with_clusters ∷ always (native_order p.settings.script) ∷ []) in
    let masked = (with_one_mask m (initial_view v).view).view in
    let qs = without_marks os in
    let seen : numbers qs ≡ numbers os = numbers_unmarked os in
    let long : length qs ≡ length (map (item_masked m) v.items) = length-map os _ ∙ many ∙ sym (length-map v.items (item_masked m)) in
    let forming : AreForming s (items_prepared t None (map (item_masked m) v.items)) qs = record {
      rises = subst IsRising (sym seen) rise;
      counted = all_counted (items_prepared t None (map (item_masked m) v.items)) qs (long ∙ sym (prepared_many t None (map (item_masked m) v.items)));
      first = λ n h. subst (λ lens. Has (first_numbers lens (numbers os)) n) (masked_graphemes t m v.items) (subst (λ ns. Has (first_numbers (grapheme_lengths (items_prepared t None (map (item_masked m) v.items))) ns) n) seen h);
    } in
    always_first s asks os initial_view from_masks v r e
    (λ a ea. always_first s asks os (with_one_mask m) from_properties (initial_view v).view a ea
    (λ b eb. always_first s asks qs (with_properties t) from_circle masked b eb
    (λ c ec. prepared t p.font p.settings.flags p.settings.pre_context p.settings.script masked s asks qs c law.ascii_has_no_marks long forming ec)))

-- ---- texts

read_leaves : (p : Shaping) (ns : List ℕ) (v : View) (asks : Asks) (os : List Origin) (r : Read) → IsLawful p.tables → IsRising (numbers os) → length os ≡ length v.items → shaping_stage p ns v ≡ Ok r → LeavesFrom (grapheme_numbers p.tables v.items (numbers os)) asks os r
unfolding shaping_stage before_ranges
read_leaves p ns v asks os r law rise many e =
    let s = grapheme_numbers p.tables v.items (numbers os) in
    first_leaves s asks os (before_ranges p v) (in_order (ranges_set p ns ∷ after_ranges p ∷ [])) r e
    (λ b f. first_leaves s asks os (text_begun p v) (in_order (characters_chosen p ∷ masks_set p ∷ [])) b f (λ c g. begun p v asks os c law rise many g))

no_origins : (os : List Origin) → length os ≡ 0 → (s : List ℕ) → BringsNone s (numbers os)
no_origins [] e s = λ n h. cc
no_origins (o ∷ os) e s = absurd (omega (arith, e))

text_leaves : (p : Shaping) (text : BufferState) (r : Read) → IsLawful p.tables → IsRising (numbers text.origins) → length text.origins ≡ length text.view.items → text_reading p text ≡ Ok r → LeavesFrom (grapheme_numbers p.tables text.view.items (numbers text.origins)) text.asks text.origins r
unfolding text_reading
text_leaves p text r law rise many e = by_test (length text.view.items == 0) refl e
  where
    by_test : (b : Bool) → (length text.view.items == 0) ≡ b → ◌≡◌ {A = Reading} (if b then Ok (unshaped_text text.view) else reading p text) (Ok r) → LeavesFrom (grapheme_numbers p.tables text.view.items (numbers text.origins)) text.asks text.origins r
    by_test true none f =
        let s = grapheme_numbers p.tables text.view.items (numbers text.origins) in
        at_read (LeavesFrom s text.asks text.origins) (unshaped_text text.view) r f (no_origins text.origins (many ∙ eqb-true (length text.view.items) 0 none) s)
    by_test false none f = read_leaves p (clusters_after (before_ranges p text.view) text) text.view text.asks text.origins r law rise many (sym (read_as p text) ∙ f)

pub shaped_clusters_are_graphemes : ShapedClustersAreGraphemes
shaped_clusters_are_graphemes p text result law level rise f =
    let q = left_by (text_reading p (state_of text)) (state_of text) (state_of result) f in
    let seen = numbers_origins (all_glyphs text) in
    let many = length-map (all_glyphs text) origin_of ∙ sym (length-map (all_glyphs text) item_of) in
    let leaves = text_leaves p (state_of text) q.read law (subst IsRising (sym seen) rise) many q.is_read in
    let there : clusters (all_glyphs result) ≡ numbers (origins_after (state_of text).asks Graphemes (q.read.events Graphemes) (origins_of text)) =
    result_clusters result (state_after q.read (state_of text)) q.left ∙ ap (λ l. numbers (origins_after (state_of text).asks l (q.read.events l) (origins_of text))) level in
    subst (BringsNone (grapheme_numbers p.tables (items_of text) (clusters (all_glyphs text)))) (sym there)
    (subst (λ ns. BringsNone (grapheme_numbers p.tables (items_of text) ns) (numbers (origins_after (state_of text).asks Graphemes (q.read.events Graphemes) (origins_of text)))) seen leaves)

pub pushed_clusters_are_graphemes : PushedClustersAreGraphemes
pushed_clusters_are_graphemes p bytes text result law level pushed f =
    let once = ap clusters pushed ∙ pushed_clusters 0 (chars bytes) in
    let items = ap strip pushed ∙ pushed_items 0 (chars bytes) in
    let law_here = shaped_clusters_are_graphemes p text result law level (pushed_rise bytes text once) f in
    λ n h. subst (λ xs. Has (grapheme_numbers p.tables xs (offsets_from 0 (chars bytes))) n) items (subst (λ ns. Has (grapheme_numbers p.tables (items_of text) ns) n) once (law_here n h))
