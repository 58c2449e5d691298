-- The forms of letters of a text that is broken into two.
use Rattle.std.proofs.Common.{ℕ, suc, ◌≡◌, ◌<◌, ◌+◌, ◌⊎◌, inl, inr, Bool, true, false, if◌then◌else◌, List, [], ◌∷◌, ◌++◌, length, map, Option, None, Some, arith, refl, sym, ap, subst, ◌∙◌}
use Rattle.std.proofs.lemmas.List.{append-nil}
use Rattle.buffer_unicode_tables.specs.Tables.{Tables}
use Rattle.buffer_glyphs.specs.declared.level.BufferClusterLevel.{BufferClusterLevel}
use Rattle.buffer_glyphs.specs.Items.{Item}
use Rattle.buffer_glyphs.specs.Rewriting.{shifted_event}
use Rattle.buffer_parts.specs.Counts.{count_after}
use Rattle.buffer_parts.specs.Orderly.{IsOrderly}
use Rattle.buffer_parts.specs.Lemmas.Orderly.{plain_is_orderly}
use Rattle.buffer_parts.specs.Lemmas.Plainly.{steady_count, steady_plain}
use Rattle.buffer_core.specs.Readings.{View, Read, BufferState, state_after}
use Rattle.buffer_parts.specs.Breaks.Concat.{without_concats}
use Rattle.buffer_parts.specs.Breaks.Fragments.{AreFragments, AreGiven, IsWhole}
use Rattle.buffer_parts.specs.Breaks.Divisible.{IsBreakable, StaysDivided}
use Rattle.buffer_parts.specs.Breaks.Beside.{IsReadAlone}
use Rattle.buffer_parts.proofs.BreakLemmas.Beside.{beside_stays_divided, crossing_is_unsafe}
use Rattle.script_joining.specs.declared.flags.Letter.{Letter}
use Rattle.script_joining.specs.Types.{JoiningType, type_of_item}
use Rattle.script_joining.specs.Forms.{letter_form}
use Rattle.script_joining.specs.Joining.{form_after, forms, forms_copied, items_with_forms, letters_with_forms, nearest, neighbour_events, settled_forms, types_of_characters, types_of_items, with_form, with_forms}
use Rattle.script_joining.specs.Lemmas.Steady.{joining_is_steady}
use Rattle.shape_laws.specs.Breaks.Joining.{BeginsUnselected, ContextsShow, ShowsAfter, nearest_after}
use Rattle.shape_laws.proofs.BreakLemmas.Letters.{IsEndSame, IsLast, IsSameFirst, IsSameLast, events_in_turn, forms_both, forms_first, forms_last, last_is, letter_before, letters_bounded, letters_divide, letters_lossless, nearest_some, characters_before, passed_nearest}
use Rattle.shape_laws.specs.Breaks.Texts.{AreUnnumbered}
use Rattle.shape_laws.proofs.BreakLemmas.Unnumbered.{given_early, given_late, plain_items, plainly_beside}
use Rattle.script_joining.proofs.Joined.{settled_length as settled_many, copied_length as copied_many, forms_length as forms_many}
use Rattle.script_dispatch.specs.Lemmas.Keeping.Masks.{forms_long as formed_many}
use Rattle.layout_laws.proofs.BreakLemmas.Passes.{count_without}
use Rattle.buffer_parts.proofs.BreakLemmas.Division.{without_both}

-- ---- forms

end_same : (last : Option Letter) (us after : List JoiningType) (shown : JoiningType) → IsSameLast last us → ShowsAfter us after shown → IsEndSame last (nearest (us ++ after)) shown
end_same None us after shown kept shows = tt
end_same (Some p) us after shown kept (inl e) = ap (letter_form p.before p.joining) (sym e)
end_same (Some p) us after shown kept (inr (none, some)) =
    ap (letter_form p.before p.joining) (nearest_some us after [] some ∙ ap nearest (append-nil us)) ∙ kept ∙ ap (letter_form p.before p.joining) (sym none)

-- the forms of two texts are those of each
forms_divide : (pre ts us post early_post late_pre : List JoiningType) → IsSameLast (letter_before (nearest pre) None 0 ts) us → ShowsAfter us post (nearest early_post) → IsSameFirst (nearest_after (nearest pre) ts) (nearest late_pre) us
    → forms pre (ts ++ us) post ≡ forms pre ts early_post ++ forms late_pre us post
forms_divide pre ts us post early_post late_pre kept shows first =
    forms_both pre ts us post
    ∙ ap (λ fs. fs ++ forms (characters_before pre ts) us post) (forms_last pre ts (us ++ post) early_post None 0 (end_same (letter_before (nearest pre) None 0 ts) us post (nearest early_post) kept shows))
    ∙ ap (λ fs. forms pre ts early_post ++ fs) (forms_first (characters_before pre ts) late_pre us post (subst (λ b. IsSameFirst b (nearest late_pre) us) (sym (passed_nearest pre ts)) first))

copied_both : (before : Option ℕ) (xs ys : List Item) (fs gs : List ℕ) → length fs ≡ length xs → BeginsUnselected ys → forms_copied before (xs ++ ys) (fs ++ gs) ≡ forms_copied before xs fs ++ forms_copied None ys gs
copied_both None [] ys [] gs e h = refl
copied_both (Some b) [] [] [] gs e h = refl
copied_both (Some b) [] (y ∷ ys) [] [] e h = refl
copied_both (Some b) [] (y ∷ ys) [] (g ∷ gs) e h = ap (λ (k : Bool). (if k then b else g) ∷ forms_copied (Some (if k then b else g)) ys gs) h
copied_both before [] ys (f ∷ fs) gs e h = absurd (omega (arith, e))
copied_both before (x ∷ xs) ys [] gs e h = absurd (omega (arith, e))
copied_both before (x ∷ xs) ys (f ∷ fs) gs e h = ap (λ zs. form_after before x f ∷ zs) (copied_both (Some (form_after before x f)) xs ys fs gs (omega (arith, e)) h)

settled_both : (mongolian : Bool) (xs ys : List Item) (fs gs : List ℕ) → length fs ≡ length xs → (mongolian ≡ false) ⊎ BeginsUnselected ys → settled_forms mongolian (xs ++ ys) (fs ++ gs) ≡ settled_forms mongolian xs fs ++ settled_forms mongolian ys gs
settled_both false xs ys fs gs e h = refl
settled_both true xs ys fs gs e (inl f) = cc
settled_both true xs ys fs gs e (inr h) = copied_both None xs ys fs gs e h

formed_both : (masks : List ℕ) (xs ys : List Item) (fs gs : List ℕ) → length fs ≡ length xs → with_forms masks (xs ++ ys) (fs ++ gs) ≡ with_forms masks xs fs ++ with_forms masks ys gs
formed_both masks [] ys [] gs e = refl
formed_both masks [] ys (f ∷ fs) gs e = absurd (omega (arith, e))
formed_both masks (x ∷ xs) ys [] gs e = absurd (omega (arith, e))
formed_both masks (x ∷ xs) ys (f ∷ fs) gs e = ap (λ zs. with_form masks x f ∷ zs) (formed_both masks xs ys fs gs (omega (arith, e)))

pub formed_given : (masks : List ℕ) (last : ℕ) (xs : List Item) (fs : List ℕ) → AreGiven last xs → AreGiven last (with_forms masks xs fs)
formed_given masks last [] fs h = tt
formed_given masks last (x ∷ xs) [] h = h
formed_given masks last (x ∷ xs) (f ∷ fs) h = (h.0, formed_given masks last xs fs h.1)

-- ---- the stage

types_many : (t : Tables) (xs : List Item) → length (types_of_items t xs) ≡ length xs
types_many t [] = refl
types_many t (x ∷ xs) = ap suc (types_many t xs)

types_both : (t : Tables) (xs ys : List Item) → types_of_items t (xs ++ ys) ≡ types_of_items t xs ++ types_of_items t ys
types_both t [] ys = refl
types_both t (x ∷ xs) ys = ap (λ ts. type_of_item t x ∷ ts) (types_both t xs ys)

-- what is read of a text's letters
abbrev letters_read : Tables → Bool → List ℕ → List ℕ → List ℕ → View → Read
letters_read t mongolian masks pre post v = letters_with_forms t mongolian masks pre post v

joined_orderly : (t : Tables) (mongolian : Bool) (masks pre post : List ℕ) (s : BufferState) → IsOrderly s.asks s.level ((letters_read t mongolian masks pre post s.view).events s.level) s.origins
joined_orderly t mongolian masks pre post s =
    let es = (letters_read t mongolian masks pre post s.view).events s.level in
    plain_is_orderly s.asks s.level es s.origins (steady_plain es (joining_is_steady t mongolian masks pre post s.view s.level))

joined_count : (t : Tables) (mongolian : Bool) (masks pre post : List ℕ) (v : View) (level : BufferClusterLevel) (n : ℕ) → count_after ((letters_read t mongolian masks pre post v).events level) n ≡ n
joined_count t mongolian masks pre post v level n = steady_count n ((letters_read t mongolian masks pre post v).events level) (joining_is_steady t mongolian masks pre post v level)

pub joined_many : (t : Tables) (mongolian : Bool) (masks pre post : List ℕ) (v : View) → length (letters_read t mongolian masks pre post v).view.items ≡ length v.items
joined_many t mongolian masks pre post v = formed_many masks v.items (settled_forms mongolian v.items (forms (types_of_characters t pre) (types_of_items t v.items) (types_of_characters t post)))

read_alone : (t : Tables) (mongolian : Bool) (masks pre post : List ℕ) (level : BufferClusterLevel) (s : BufferState) → IsWhole s → 0 < length s.origins → IsReadAlone level (length s.origins) (letters_read t mongolian masks pre post s.view)
read_alone t mongolian masks pre post level s whole some =
    let many = joined_many t mongolian masks pre post s.view in
    let count = whole.origins in
    let types = types_many t s.view.items in
    record {
      bounded = letters_bounded (nearest (types_of_characters t pre)) None 0 (length s.origins) (types_of_items t s.view.items) tt (omega (arith, count, types));
      positions = whole.positions ∙ sym many;
      counted = joined_count t mongolian masks pre post s.view level (length s.origins) ∙ count ∙ sym many;
      some = omega (arith, many, count, some);
    }

-- the items of two texts, one after the other, with the forms of each
items_divide : (t : Tables) (mongolian : Bool) (masks pre post early_post late_pre : List ℕ) (xs ys : List Item) → ContextsShow t pre post early_post late_pre xs ys → (mongolian ≡ false) ⊎ BeginsUnselected ys
    → IsSameLast (letter_before (nearest (types_of_characters t pre)) None 0 (types_of_items t xs)) (types_of_items t ys) → IsSameFirst (nearest_after (nearest (types_of_characters t pre)) (types_of_items t xs)) (nearest (types_of_characters t late_pre)) (types_of_items t ys)
    → items_with_forms t mongolian masks pre post (xs ++ ys) ≡ items_with_forms t mongolian masks pre early_post xs ++ items_with_forms t mongolian masks late_pre post ys
items_divide t mongolian masks pre post early_post late_pre xs ys shows begins kept first =
    let p = types_of_characters t pre in
    let q = types_of_characters t post in
    let early = forms p (types_of_items t xs) (types_of_characters t early_post) in
    let late = forms (types_of_characters t late_pre) (types_of_items t ys) q in
    let many : length early ≡ length xs = forms_many p (types_of_items t xs) (types_of_characters t early_post) ∙ types_many t xs in
    ap (λ ts. with_forms masks (xs ++ ys) (settled_forms mongolian (xs ++ ys) (forms p ts q))) (types_both t xs ys)
    ∙ ap (λ fs. with_forms masks (xs ++ ys) (settled_forms mongolian (xs ++ ys) fs)) (forms_divide p (types_of_items t xs) (types_of_items t ys) q (types_of_characters t early_post) (types_of_characters t late_pre) kept shows.after first)
    ∙ ap (with_forms masks (xs ++ ys)) (settled_both mongolian xs ys early late many begins)
    ∙ formed_both masks xs ys (settled_forms mongolian xs early) (settled_forms mongolian ys late) (settled_many mongolian xs early many)

-- letters of a text that is broken into two have the forms that they have in each, where the contexts show them
pub joined_divide : (t : Tables) (mongolian : Bool) (masks pre post early_post late_pre : List ℕ) (c : ℕ) (whole earlier later : BufferState) → IsBreakable whole → AreFragments false c whole earlier later → AreUnnumbered whole.view earlier.view later.view
    → ContextsShow t pre post early_post late_pre earlier.view.items later.view.items → (mongolian ≡ false) ⊎ BeginsUnselected later.view.items
    → StaysDivided false c (state_after (letters_with_forms t mongolian masks pre post whole.view) whole) (state_after (letters_with_forms t mongolian masks pre early_post earlier.view) earlier) (state_after (letters_with_forms t mongolian masks late_pre post later.view) later)
joined_divide t mongolian masks pre post early_post late_pre c whole earlier later ready j un shows begins =
    let level = whole.level in
    let xs = earlier.view.items in
    let ys = later.view.items in
    let ts = types_of_items t xs in
    let us = types_of_items t ys in
    let b = nearest (types_of_characters t pre) in
    let d = nearest (types_of_characters t late_pre) in
    let last = letter_before b None 0 ts in
    let m = length earlier.origins in
    let es = neighbour_events b None 0 ts in
    let early_many = j.early_whole.origins in
    let late_many = j.late_whole.origins in
    let early_types = types_many t xs in
    let late_types = types_many t ys in
    let some = j.early_some in
    let plain = plain_items c whole earlier later j un in
    let at : 0 + length ts ≡ m + 0 = omega (arith, early_types, early_many) in
    let here : 0 + length ts ≡ m = omega (arith, early_types, early_many) in
    let all : (letters_read t mongolian masks pre post whole.view).events level ≡ es ++ neighbour_events (nearest_after b ts) last (m + 0) us =
    ap (λ zs. neighbour_events b None 0 (types_of_items t zs)) plain ∙ ap (neighbour_events b None 0) (types_both t xs ys) ∙ events_in_turn b None 0 ts us ∙ ap (λ (i : ℕ). es ++ neighbour_events (nearest_after b ts) last i us) at in
    let count : count_after (without_concats es) m ≡ m = count_without es m ∙ joined_count t mongolian masks pre early_post earlier.view level m in
    elim (letters_divide whole.asks level m 0 (nearest_after b ts) d last us ready.breaks.requested some (subst (λ (n : ℕ). IsLast (nearest_after b ts) n last) here (last_is b None 0 ts tt)) shows.before) [
      | inl across ↦
          let low = across.low in
          let high = across.high in
          let fits = across.fits in
          inl (crossing_is_unsafe false c whole earlier later (letters_read t mongolian masks pre post whole.view) (without_concats es) across.rest across.event across.span ready j (joined_orderly t mongolian masks pre post whole)
          (letters_lossless b None 0 (types_of_items t whole.view.items) (length whole.origins))
          (ap without_concats all ∙ without_both es (neighbour_events (nearest_after b ts) last (m + 0) us) ∙ ap (λ fs. without_concats es ++ fs) across.is)
          (letters_bounded b None 0 m ts tt (omega (arith, early_types, early_many))) across.binds (omega (arith, count, low)) (omega (arith, count, high)) (omega (arith, count, fits, late_types, late_many)))
      | inr apart ↦
          beside_stays_divided false false c whole earlier later (letters_read t mongolian masks pre post whole.view) (letters_read t mongolian masks pre early_post earlier.view) (letters_read t mongolian masks late_pre post later.view) ready j
          (joined_orderly t mongolian masks pre post whole) (letters_lossless b None 0 (types_of_items t whole.view.items) (length whole.origins))
          (plainly_beside level m (length later.origins) (letters_read t mongolian masks pre post whole.view) (letters_read t mongolian masks pre early_post earlier.view) (letters_read t mongolian masks late_pre post later.view) (record {
            numbers = record { whole_none = un.whole_none; early_none = un.early_none; late_none = un.late_none };
            early_given = formed_given masks 0 xs (settled_forms mongolian xs (forms (types_of_characters t pre) ts (types_of_characters t early_post))) (given_early c whole earlier later j un);
            late_given = formed_given masks 0 ys (settled_forms mongolian ys (forms (types_of_characters t late_pre) us (types_of_characters t post))) (given_late c whole earlier later j un);
            items = ap (items_with_forms t mongolian masks pre post) plain ∙ items_divide t mongolian masks pre post early_post late_pre xs ys shows begins apart.kept apart.first;
            positions = j.positions;
            events = ap without_concats all ∙ without_both es (neighbour_events (nearest_after b ts) last (m + 0) us) ∙ ap (λ fs. without_concats es ++ fs) apart.events
                ∙ ap (λ (k : ℕ). without_concats es ++ map (shifted_event k) (without_concats (neighbour_events d None 0 us))) (sym count);
            early_direction = j.early_of.direction;
            late_direction = j.late_of.direction;
            early = read_alone t mongolian masks pre early_post level earlier j.early_whole j.early_some;
            late = read_alone t mongolian masks late_pre post level later j.late_whole j.late_some;
          }))
    ]
