-- Texts of shapers of some scripts, up to the masks of ranges.
use Rattle.std.proofs.Common.{ℕ, zero, suc, ◌≡◌, ◌+◌, ◌-◌, ◌==◌, ◌&&◌, inl, true, false, if◌then◌else◌, List, [], ◌∷◌, ◌++◌, length, map, take, drop, Option, None, Some, Ok, arith, refl, sym, ap, subst, ◌∙◌}
use Rattle.std.specs.Prelude.{⊤, max}
use Rattle.buffer_glyphs.specs.Items.{Item}
use Rattle.buffer_glyphs.specs.Events.{Move}
use Rattle.buffer_glyphs.specs.Levels.{InList}
use Rattle.buffer_glyphs.specs.Origins.{with_range_changed}
use Rattle.buffer_glyphs.specs.Rewriting.{Arrangement, eventless_arrangement}
use Rattle.buffer_stages.specs.Moves.{order_of_move, with_range_moved}
use Rattle.script_arabic.specs.Marks.{count_below, count_leading, item_with_class}
use Rattle.script_arabic.specs.MarkOrder.{arabic_order, leading_first, leading_marks}
use Rattle.script_arabic.proofs.MarkCounts.{arabic_length}
use Rattle.script_hebrew.specs.Hebrew.{first_three}
use Rattle.script_hebrew.specs.MarkOrder.{hebrew_order, with_marks_swapped}
use Rattle.script_hebrew.proofs.MarkCounts.{hebrew_length}
use Rattle.buffer_core.specs.Readings.{Read, Stage, BufferState, as_it_is, state_after, with_events}
use Rattle.buffer_parts.specs.Lemmas.Stages.{same_read}
use Rattle.buffer_stages.specs.Settings.{TextSettings}
use Rattle.layout_map.specs.Masks.{joining_masks}
use Rattle.script_categories.specs.declared.shaper.hb_ot_script_shaper_t.{hb_ot_script_shaper_t}
use Rattle.script_categories.specs.declared.shaper.hb_ot_script_shaper_t.TheVariants.{ARABIC_SHAPER, HANGUL_SHAPER, HEBREW_SHAPER, INDIC_SHAPER, KHMER_SHAPER, MYANMAR_SHAPER, MYANMAR_ZAWGYI_SHAPER, THAI_SHAPER, UNIVERSAL_SHAPER}
use Rattle.script_dispatch.specs.declared.any_shaper.hb_ot_any_shaper_t.TheVariants as any
use Rattle.script_dispatch.specs.Hooks.{reorders_by}
use Rattle.script_dispatch.specs.Rules.{script_rules}
use Rattle.buffer_common.specs.Direction.{is_backward, is_vertical}
use Rattle.buffer_unicode_tables.specs.Tables.{Tables}
use Rattle.script_joining.specs.Joining.{is_mongolian, letters_with_forms, types_of_characters}
use Rattle.script_plan.specs.declared.plan.hb_script_plan_t.{hb_script_plan_t}
use Rattle.script_plan.specs.Rules.{ShaperRules}
use Rattle.shape_pipeline.specs.Shaping.{Shaping, preprocessing_stage, shaper_masks_set}
use Rattle.shape_laws.specs.Breaks.Chains.{KeepsBroken, MasksKeepBroken, unmasked_state}
use Rattle.shape_laws.specs.Breaks.ChainLaws.{ArabicCharactersDivide, ArabicTextsDivide, CharactersAreShown, CharactersDivide, HebrewRulesHaveNoStages, LettersAreShown, MarkOrdersEndUnjoined, MarkOrdersKeepTypes, MarkOrdersRewrite}
use Rattle.shape_laws.specs.Breaks.Characters.{AreUnjoined, OrderEndsUnjoined, PreprocessesNothing, characters}
use Rattle.shape_laws.specs.Breaks.Types.{KeepsTypes, OrderKeepsTypes, ends_of}
use Rattle.shape_laws.specs.Breaks.Rewrites.{HasNoStages, RewritesRuns}
use Rattle.shape_laws.specs.Breaks.Texts.{AreBrokenShapings, IsNativeLine, StaysBroken}
use Rattle.shape_laws.proofs.BreakLemmas.Chain.{texts_divide}
use Rattle.shape_laws.proofs.BreakLemmas.MarkOrders.{arabic_rewrites, hebrew_rewrites}
use Rattle.shape_laws.proofs.BreakLemmas.Raw.{raw_apart}
use Rattle.shape_laws.proofs.BreakLemmas.Rewrites.{eventless_rewrite}
use Rattle.shape_laws.proofs.BreakLemmas.Contexts.{IsSeenBack, items_show}
use Rattle.shape_laws.proofs.BreakLemmas.Ends.{item_ends}
use Rattle.shape_laws.proofs.BreakLemmas.Plain.{normalizer_alike}
use Rattle.shape_laws.proofs.BreakLemmas.Shown.{early_seen, late_ends}
use Rattle.shape_laws.proofs.BreakLemmas.TypedOrders.{arabic_keeps, hebrew_keeps, none_keeps}
use Rattle.shape_laws.proofs.BreakLemmas.Stages.{late_wants, letters_of_both_divide}
use Rattle.shape_laws.proofs.BreakLemmas.Unjoined.{unjoined_last}

-- ---- orders of marks

pub none_rewrites : RewritesRuns (λ run. eventless_arrangement run)
none_rewrites run given = (eventless_rewrite run given, refl)

rewrites_by : (shaper : hb_ot_script_shaper_t) → RewritesRuns (reorders_by shaper)
rewrites_by ARABIC_SHAPER = arabic_rewrites
rewrites_by HEBREW_SHAPER = hebrew_rewrites
rewrites_by HANGUL_SHAPER = none_rewrites
rewrites_by INDIC_SHAPER = none_rewrites
rewrites_by KHMER_SHAPER = none_rewrites
rewrites_by MYANMAR_SHAPER = none_rewrites
rewrites_by MYANMAR_ZAWGYI_SHAPER = none_rewrites
rewrites_by THAI_SHAPER = none_rewrites
rewrites_by UNIVERSAL_SHAPER = none_rewrites

pub mark_orders_rewrite : MarkOrdersRewrite
mark_orders_rewrite any.Default plan = none_rewrites
mark_orders_rewrite any.Dumber plan = none_rewrites
mark_orders_rewrite (any.Script shaper) plan = rewrites_by shaper

-- ---- orders of marks without U+034F

unjoined_both : (xs ys : List Item) → AreUnjoined xs → AreUnjoined ys → AreUnjoined (xs ++ ys)
unjoined_both [] ys h k = k
unjoined_both (x ∷ xs) ys h k = (h.0, unjoined_both xs ys h.1 k)

unjoined_first : (n : ℕ) (xs : List Item) → AreUnjoined xs → AreUnjoined (take n xs)
unjoined_first zero xs h = tt
unjoined_first (suc n) [] h = tt
unjoined_first (suc n) (x ∷ xs) h = (h.0, unjoined_first n xs h.1)

unjoined_from : (n : ℕ) (xs : List Item) → AreUnjoined xs → AreUnjoined (drop n xs)
unjoined_from zero xs h = h
unjoined_from (suc n) [] h = tt
unjoined_from (suc n) (x ∷ xs) h = unjoined_from n xs h.1

unjoined_moved : (start n k : ℕ) (xs : List Item) → AreUnjoined xs → AreUnjoined (with_range_moved start n k xs)
unjoined_moved start n k xs h =
    let first = take n (drop start xs) in
    let second = take k (drop (start + n) xs) in
    unjoined_both (take start xs ++ (second ++ first)) (drop (start + (n + k)) xs)
    (unjoined_both (take start xs) (second ++ first) (unjoined_first start xs h)
    (unjoined_both second first (unjoined_first k (drop (start + n) xs) (unjoined_from (start + n) xs h)) (unjoined_first n (drop start xs) (unjoined_from start xs h))))
    (unjoined_from (start + (n + k)) xs h)

unjoined_classed : (class : ℕ) (xs : List Item) → AreUnjoined xs → AreUnjoined (map (item_with_class class) xs)
unjoined_classed class [] h = tt
unjoined_classed class (x ∷ xs) h = (h.0, unjoined_classed class xs h.1)

unjoined_changed : (class to : ℕ) (xs : List Item) → AreUnjoined xs → AreUnjoined (with_range_changed (item_with_class class) 0 to xs)
unjoined_changed class to xs h =
    unjoined_both (map (item_with_class class) (take (to - 0) xs)) (drop (max 0 to) xs) (unjoined_classed class (take (to - 0) xs) (unjoined_first (to - 0) xs h)) (unjoined_from (max 0 to) xs h)

hebrew_unjoined : (run : List Item) → AreUnjoined run → AreUnjoined (hebrew_order run).items
hebrew_unjoined run h = by_index (first_three run)
  where
    by_index : (o : Option ℕ) → AreUnjoined (with_marks_swapped o run).items
    by_index None = h
    by_index (Some n) = unjoined_moved (n + 1) 1 1 run h

leading_unjoined : (class below leading : ℕ) (run : List Item) → AreUnjoined run → AreUnjoined (leading_marks class below leading run).items
leading_unjoined class below leading run h =
    elim (leading == 0) as (λ t. AreUnjoined (if t then eventless_arrangement run else record { items = with_range_changed (item_with_class class) 0 leading (with_range_moved 0 below leading run); events = Move InList 0 (order_of_move below leading) ∷ [] }).items)
    [ true ↦ h | false ↦ unjoined_changed class leading (with_range_moved 0 below leading run) (unjoined_moved 0 below leading run h) ]

arabic_unjoined : (run : List Item) → AreUnjoined run → AreUnjoined (arabic_order run).items
arabic_unjoined run h =
    let first = leading_first 220 25 run in
    let p = leading_unjoined 25 (count_below 220 run) (count_leading 220 run) run h in
    let n = count_leading 220 run in
    let rest = drop n first.items in
    unjoined_both (take n first.items) (leading_first 230 26 rest).items (unjoined_first n first.items p) (leading_unjoined 26 (count_below 230 rest) (count_leading 230 rest) rest (unjoined_from n first.items p))

-- an order that keeps the count of marks, and adds no U+034F
ends_by : (reorders : List Item → Arrangement) → ((run : List Item) → length (reorders run).items ≡ length run) → ((run : List Item) → AreUnjoined run → AreUnjoined (reorders run).items) → OrderEndsUnjoined reorders
ends_by reorders many unjoined before run h some = let count = many run in unjoined_last before (reorders run).items (unjoined run h) (omega (arith, count, some))

none_ends : OrderEndsUnjoined (λ run. eventless_arrangement run)
none_ends before run h some = unjoined_last before run h some

pub order_ends : (shaper : hb_ot_script_shaper_t) → OrderEndsUnjoined (reorders_by shaper)
order_ends ARABIC_SHAPER = ends_by arabic_order arabic_length arabic_unjoined
order_ends HEBREW_SHAPER = ends_by hebrew_order hebrew_length hebrew_unjoined
order_ends HANGUL_SHAPER = none_ends
order_ends INDIC_SHAPER = none_ends
order_ends KHMER_SHAPER = none_ends
order_ends MYANMAR_SHAPER = none_ends
order_ends MYANMAR_ZAWGYI_SHAPER = none_ends
order_ends THAI_SHAPER = none_ends
order_ends UNIVERSAL_SHAPER = none_ends

pub mark_orders_end_unjoined : MarkOrdersEndUnjoined
mark_orders_end_unjoined any.Default plan = none_ends
mark_orders_end_unjoined any.Dumber plan = none_ends
mark_orders_end_unjoined (any.Script shaper) plan = order_ends shaper

pub hebrew_rules_have_no_stages : HebrewRulesHaveNoStages
hebrew_rules_have_no_stages plan = record { preprocesses = λ font t settings. refl; sets_masks = λ font t settings. refl; reorders = hebrew_rewrites }

-- ---- stages of a shaper, in the shapings of two pieces

-- a stage that changes nothing keeps texts broken
pub none_keep : KeepsBroken as_it_is as_it_is as_it_is
none_keep c whole earlier later r e l stays is_r is_e is_l =
    subst (λ (x : Read). StaysBroken c (state_after x whole) (state_after e earlier) (state_after l later)) (same_read (with_events [] whole.view) r is_r)
    (subst (λ (x : Read). StaysBroken c (state_after (with_events [] whole.view) whole) (state_after x earlier) (state_after l later)) (same_read (with_events [] earlier.view) e is_e)
    (subst (λ (x : Read). StaysBroken c (state_after (with_events [] whole.view) whole) (state_after (with_events [] earlier.view) earlier) (state_after x later)) (same_read (with_events [] later.view) l is_l) stays))

-- ---- Arabic

-- the rules of a piece
pub early_rules : (p p1 p2 : Shaping) (rules : ShaperRules) → AreBrokenShapings p p1 p2 → p.rules ≡ rules → p1.rules ≡ rules
early_rules p p1 p2 rules h e = ap (λ (q : Shaping). q.rules) h.early_is ∙ e

pub late_rules : (p p1 p2 : Shaping) (rules : ShaperRules) → AreBrokenShapings p p1 p2 → p.rules ≡ rules → p2.rules ≡ rules
late_rules p p1 p2 rules h e = ap (λ (q : Shaping). q.rules) h.late_is ∙ e

arabic_preprocesses : (plan : hb_script_plan_t ⊤) (p p1 p2 : Shaping) → p.rules ≡ script_rules ARABIC_SHAPER plan → AreBrokenShapings p p1 p2
    → KeepsBroken (p.rules.preprocesses p.font p.tables p.settings) (p1.rules.preprocesses p1.font p1.tables p1.settings) (p2.rules.preprocesses p2.font p2.tables p2.settings)
arabic_preprocesses plan p p1 p2 rules h =
    let mine = script_rules ARABIC_SHAPER plan in
    let early = early_rules p p1 p2 mine h rules in
    let late = late_rules p p1 p2 mine h rules in
    subst (λ (q : ShaperRules). KeepsBroken (q.preprocesses p.font p.tables p.settings) (p1.rules.preprocesses p1.font p1.tables p1.settings) (p2.rules.preprocesses p2.font p2.tables p2.settings)) (sym rules)
    (subst (λ (q : ShaperRules). KeepsBroken as_it_is (q.preprocesses p1.font p1.tables p1.settings) (p2.rules.preprocesses p2.font p2.tables p2.settings)) (sym early)
    (subst (λ (q : ShaperRules). KeepsBroken as_it_is as_it_is (q.preprocesses p2.font p2.tables p2.settings)) (sym late) none_keep))

-- the letters of a text
letters_read : (plan : hb_script_plan_t ⊤) (q : Shaping) (s : BufferState) (r : Read) → q.rules ≡ script_rules ARABIC_SHAPER plan → shaper_masks_set q s.view ≡ Ok r
    → letters_with_forms q.tables (is_mongolian plan.script) (joining_masks plan.map) q.settings.pre_context q.settings.post_context s.view ≡ r
letters_read plan q s r rules e =
    same_read (letters_with_forms q.tables (is_mongolian plan.script) (joining_masks plan.map) q.settings.pre_context q.settings.post_context s.view) r
    (subst (λ (k : ShaperRules). k.sets_masks q.font q.tables q.settings s.view ≡ Ok r) rules e)

letters_keep : (plan : hb_script_plan_t ⊤) (p p1 p2 : Shaping) (c : ℕ) (whole earlier later : BufferState) → p.rules ≡ script_rules ARABIC_SHAPER plan → AreBrokenShapings p p1 p2 → LettersAreShown c plan p p1 p2 whole earlier later
    → MasksKeepBroken c p p1 p2 whole earlier later
letters_keep plan p p1 p2 c whole earlier later rules h shows w a b r e l stays is_r is_e is_l =
    let mine = script_rules ARABIC_SHAPER plan in
    let m = is_mongolian plan.script in
    let masks = joining_masks plan.map in
    let w5 = unmasked_state p whole w in
    let e5 = unmasked_state p1 earlier a in
    let l5 = unmasked_state p2 later b in
    let pre = p.settings.pre_context in
    let post = p.settings.post_context in
    let early_tables : p1.tables ≡ p.tables = ap (λ (q : Shaping). q.tables) h.early_is in
    let late_tables : p2.tables ≡ p.tables = ap (λ (q : Shaping). q.tables) h.late_is in
    let early_pre : p1.settings.pre_context ≡ pre = ap (λ (t : TextSettings). t.pre_context) h.settings.early_is in
    let late_post : p2.settings.post_context ≡ post = ap (λ (t : TextSettings). t.post_context) h.settings.late_is in
    let rr = letters_read plan p w5 r rules is_r in
    let ee : letters_with_forms p.tables m masks pre p1.settings.post_context e5.view ≡ e =
    ap (λ t. letters_with_forms t m masks pre p1.settings.post_context e5.view) (sym early_tables)
    ∙ ap (λ us. letters_with_forms p1.tables m masks us p1.settings.post_context e5.view) (sym early_pre) ∙ letters_read plan p1 e5 e (early_rules p p1 p2 mine h rules) is_e in
    let ll : letters_with_forms p.tables m masks p2.settings.pre_context post l5.view ≡ l =
    ap (λ t. letters_with_forms t m masks p2.settings.pre_context post l5.view) (sym late_tables)
    ∙ ap (λ us. letters_with_forms p2.tables m masks p2.settings.pre_context us l5.view) (sym late_post) ∙ letters_read plan p2 l5 l (late_rules p p1 p2 mine h rules) is_l in
    let all = letters_of_both_divide p.tables m masks pre post p1.settings.post_context p2.settings.pre_context c w5 e5 l5 stays (λ j. (shows w a b j).0) (λ j. (shows w a b j).1) in
    subst (λ (x : Read). StaysBroken c (state_after x w5) (state_after e e5) (state_after l l5)) rr
    (subst (λ (x : Read). StaysBroken c (state_after (letters_with_forms p.tables m masks pre post w5.view) w5) (state_after x e5) (state_after l l5)) ee
    (subst (λ (x : Read). StaysBroken c (state_after (letters_with_forms p.tables m masks pre post w5.view) w5) (state_after (letters_with_forms p.tables m masks pre p1.settings.post_context e5.view) e5) (state_after x l5)) ll all))

pub arabic_texts_divide : ArabicTextsDivide
arabic_texts_divide plan p p1 p2 c whole earlier later r e l rules h knows ready broken native apart shows is_r is_e is_l =
    texts_divide p p1 p2 c whole earlier later r e l h (subst (λ (k : ShaperRules). RewritesRuns k.reorders) (sym rules) arabic_rewrites) (arabic_preprocesses plan p p1 p2 rules h) knows ready broken native apart
    (letters_keep plan p p1 p2 c whole earlier later rules h shows) is_r is_e is_l

-- ---- letters by the characters of both texts

keeps_by : (shaper : hb_ot_script_shaper_t) (t : Tables) → OrderKeepsTypes t (reorders_by shaper)
keeps_by ARABIC_SHAPER t = arabic_keeps t
keeps_by HEBREW_SHAPER t = hebrew_keeps t
keeps_by HANGUL_SHAPER t = none_keeps t
keeps_by INDIC_SHAPER t = none_keeps t
keeps_by KHMER_SHAPER t = none_keeps t
keeps_by MYANMAR_SHAPER t = none_keeps t
keeps_by MYANMAR_ZAWGYI_SHAPER t = none_keeps t
keeps_by THAI_SHAPER t = none_keeps t
keeps_by UNIVERSAL_SHAPER t = none_keeps t

pub mark_orders_keep_types : MarkOrdersKeepTypes
mark_orders_keep_types any.Default plan t = none_keeps t
mark_orders_keep_types any.Dumber plan t = none_keeps t
mark_orders_keep_types (any.Script shaper) plan t = keeps_by shaper t

pub characters_are_shown : CharactersAreShown
characters_are_shown p p1 p2 c whole earlier later e l h nothing types orders one broken native shows =
    let early_same = normalizer_alike p p1 h.early_is (ap (λ (t : TextSettings). t.invisible) h.settings.early_is) (ap (λ (t : TextSettings). t.not_found_variation_selector) h.settings.early_is) (ap (λ (t : TextSettings). t.not_found) h.settings.early_is) in
    let late_same = normalizer_alike p p2 h.late_is (ap (λ (t : TextSettings). t.invisible) h.settings.late_is) (ap (λ (t : TextSettings). t.not_found_variation_selector) h.settings.late_is) (ap (λ (t : TextSettings). t.not_found) h.settings.late_is) in
    let early_script : p1.settings.script ≡ p.settings.script = ap (λ (t : TextSettings). t.script) h.settings.early_is in
    let late_script : p2.settings.script ≡ p.settings.script = ap (λ (t : TextSettings). t.script) h.settings.late_is in
    let early_line : IsNativeLine p1.settings.script earlier.view.direction = subst (λ s. IsNativeLine s earlier.view.direction) (sym early_script) (subst (IsNativeLine p.settings.script) (sym broken.early_of.direction) native) in
    let late_line : IsNativeLine p2.settings.script later.view.direction = subst (λ s. IsNativeLine s later.view.direction) (sym late_script) (subst (IsNativeLine p.settings.script) (sym broken.late_of.direction) native) in
    let early_nothing : PreprocessesNothing p1.rules = subst (λ (q : Shaping). PreprocessesNothing q.rules) (sym h.early_is) nothing in
    let late_nothing : PreprocessesNothing p2.rules = subst (λ (q : Shaping). PreprocessesNothing q.rules) (sym h.late_is) nothing in
    let early_orders : OrderKeepsTypes p1.tables p1.rules.reorders = subst (λ (q : Shaping). OrderKeepsTypes q.tables q.rules.reorders) (sym h.early_is) orders in
    let late_orders : OrderKeepsTypes p2.tables p2.rules.reorders = subst (λ (q : Shaping). OrderKeepsTypes q.tables q.rules.reorders) (sym h.late_is) orders in
    let early_one : (is_backward p1.direction && is_vertical p1.direction) ≡ false = subst (λ (q : Shaping). (is_backward q.direction && is_vertical q.direction) ≡ false) (sym h.early_is) one in
    let late_one : (is_backward p2.direction && is_vertical p2.direction) ≡ false = subst (λ (q : Shaping). (is_backward q.direction && is_vertical q.direction) ≡ false) (sym h.late_is) one in
    let early_tables : p1.tables ≡ p.tables = ap (λ (q : Shaping). q.tables) h.early_is in
    let late_tables : p2.tables ≡ p.tables = ap (λ (q : Shaping). q.tables) h.late_is in
    let early_pre : p1.settings.pre_context ≡ p.settings.pre_context = ap (λ (t : TextSettings). t.pre_context) h.settings.early_is in
    let early = early_seen p1 earlier e (subst KeepsTypes (sym early_same) types) early_orders early_one early_nothing early_line in
    let late = late_ends p2 later l (subst KeepsTypes (sym late_same) types) late_orders late_one late_nothing late_line (late_wants p.settings p1.settings p2.settings h.settings) in
    items_show p.tables p.settings.pre_context p.settings.post_context p1.settings.post_context p2.settings.pre_context (characters earlier.view.items) (characters later.view.items) (unmasked_state p1 earlier e).view.items (unmasked_state p2 later l).view.items shows
    (subst (λ us. IsSeenBack p.tables us (characters earlier.view.items) (unmasked_state p1 earlier e).view.items) early_pre (subst (λ t. IsSeenBack t p1.settings.pre_context (characters earlier.view.items) (unmasked_state p1 earlier e).view.items) early_tables early))
    (subst (λ (t : Tables). item_ends t (unmasked_state p2 later l).view.items ≡ ends_of (types_of_characters t (characters later.view.items))) late_tables late)

pub arabic_characters_divide : ArabicCharactersDivide
arabic_characters_divide plan p p1 p2 c whole earlier later r e l rules mongolian h marks types one knows ready broken native may shows is_r is_e is_l =
    let mine = script_rules ARABIC_SHAPER plan in
    let nothing : PreprocessesNothing p.rules = subst PreprocessesNothing (sym rules) (λ font t settings. refl) in
    let ends : OrderEndsUnjoined p.rules.reorders = subst (λ (k : ShaperRules). OrderEndsUnjoined k.reorders) (sym rules) (order_ends ARABIC_SHAPER) in
    let orders : OrderKeepsTypes p.tables p.rules.reorders = subst (λ (k : ShaperRules). OrderKeepsTypes p.tables k.reorders) (sym rules) (arabic_keeps p.tables) in
    arabic_texts_divide plan p p1 p2 c whole earlier later r e l rules h knows ready broken native (raw_apart p p1 p2 c whole earlier later h nothing marks ends knows ready broken native may)
    (λ w a b j. (characters_are_shown p p1 p2 c whole earlier later a b h nothing types orders one broken native shows, inl mongolian)) is_r is_e is_l

-- ---- shapers without stages

-- stages that change nothing keep texts broken
pub same_keep : (stage early late : Stage) → stage ≡ as_it_is → early ≡ as_it_is → late ≡ as_it_is → KeepsBroken stage early late
same_keep stage early late e f g =
    subst (λ (s : Stage). KeepsBroken s early late) (sym e) (subst (λ (s : Stage). KeepsBroken as_it_is s late) (sym f) (subst (λ (s : Stage). KeepsBroken as_it_is as_it_is s) (sym g) none_keep))

pub characters_divide : CharactersDivide
characters_divide p p1 p2 c whole earlier later r e l h rules keeps ends knows ready broken native may is_r is_e is_l =
    let rules1 : HasNoStages p1.rules = subst (λ (q : Shaping). HasNoStages q.rules) (sym h.early_is) rules in
    let rules2 : HasNoStages p2.rules = subst (λ (q : Shaping). HasNoStages q.rules) (sym h.late_is) rules in
    texts_divide p p1 p2 c whole earlier later r e l h rules.reorders
    (same_keep (preprocessing_stage p) (preprocessing_stage p1) (preprocessing_stage p2) (rules.preprocesses p.font p.tables p.settings) (rules1.preprocesses p1.font p1.tables p1.settings) (rules2.preprocesses p2.font p2.tables p2.settings))
    knows ready broken native (raw_apart p p1 p2 c whole earlier later h rules.preprocesses keeps ends knows ready broken native may)
    (λ w a b. same_keep (shaper_masks_set p) (shaper_masks_set p1) (shaper_masks_set p2) (rules.sets_masks p.font p.tables p.settings) (rules1.sets_masks p1.font p1.tables p1.settings) (rules2.sets_masks p2.font p2.tables p2.settings) c (unmasked_state p whole w) (unmasked_state p1 earlier a) (unmasked_state p2 later b)) is_r is_e is_l
