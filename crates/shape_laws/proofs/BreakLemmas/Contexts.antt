-- What contexts of the nearest characters show of a text.
use Rattle.std.proofs.Common.{ℕ, zero, suc, ◌≡◌, ◌≤◌, ◌||◌, ◌⊎◌, inl, inr, Bool, true, false, if◌then◌else◌, List, [], ◌∷◌, ◌++◌, length, map, reverse, take, None, Some, is_some, find, unwrap_or, arith, append_assoc, refl, sym, ap, subst, ◌∙◌}
use Rattle.std.proofs.lemmas.List.{length-map, map-append, reverse-append, take-map, take_all}
use Rattle.buffer_unicode_tables.specs.Tables.{Tables}
use Rattle.buffer_glyphs.specs.Items.{Item}
use Rattle.script_categories.specs.declared.joining_types.hb_arabic_joining_type_t.TheVariants.{U}
use Rattle.script_joining.specs.Joining.{is_letter, nearest, types_of_characters, types_of_items}
use Rattle.script_joining.specs.Types.{JoiningType, type_of_character}
use Rattle.shape_laws.specs.Breaks.ChainLaws.{NearestContextsShow}
use Rattle.shape_laws.specs.Breaks.Joining.{ContextsShow, ShowsAfter, ShowsBefore, has_letter, nearest_after}
use Rattle.shape_laws.specs.Breaks.Types.{CharactersShow, Ends, ends_joined, ends_of}
use Rattle.shape_laws.proofs.BreakLemmas.Ends.{first_or, first_seen, item_ends, last_or, last_seen, letter_seen, quiet_ends}
use Rattle.buffer_lists.specs.Lemmas.Picked.{reversed_onto as reverse_more}

-- ---- the nearest letter

-- the nearest letter of some characters is that of the first n, or these show none
nearest_cut : (n : ℕ) (ts : List JoiningType) → (nearest (take n ts) ≡ nearest ts) ⊎ ((nearest (take n ts) ≡ U) × (has_letter (take n ts) ≡ false))
nearest_cut zero ts = inr (refl, refl)
nearest_cut (suc n) [] = inl refl
nearest_cut (suc n) (t ∷ ts) = by_test (is_letter t) (nearest_cut n ts)
  where
    by_test : (b : Bool) → (nearest (take n ts) ≡ nearest ts) ⊎ ((nearest (take n ts) ≡ U) × (has_letter (take n ts) ≡ false))
        → (unwrap_or (if b then Some t else find is_letter (take n ts)) U ≡ unwrap_or (if b then Some t else find is_letter ts) U) ⊎ ((unwrap_or (if b then Some t else find is_letter (take n ts)) U ≡ U) × ((b || has_letter (take n ts)) ≡ false))
    by_test true h = inl refl
    by_test false h = h

pub map_reverse : {X Y : Type 0} (f : X → Y) (us : List X) → map f (reverse us) ≡ reverse (map f us)
map_reverse f [] = refl
map_reverse f (u ∷ us) = ap (map f) (reverse_more u us) ∙ map-append f (reverse us) (u ∷ []) ∙ ap (λ ys. ys ++ f u ∷ []) (map_reverse f us) ∙ sym (reverse_more (f u) (map f us))

-- the nearest letter before some characters, read backward
nearest_back : (ts before : List JoiningType) → nearest (reverse ts ++ before) ≡ nearest_after (nearest before) ts
nearest_back [] before = refl
nearest_back (t ∷ ts) before =
    ap (λ us. nearest (us ++ before)) (reverse_more t ts) ∙ ap nearest (append_assoc (reverse ts) (t ∷ []) before) ∙ nearest_back ts (t ∷ before) ∙ ap (λ (y : JoiningType). nearest_after y ts) (by_test (is_letter t))
  where
    by_test : (b : Bool) → unwrap_or (if b then Some t else find is_letter before) U ≡ (if b then t else nearest before)
    by_test true = refl
    by_test false = refl

-- where the first n characters show no letter, and the later text has one, or they are all, the nearest is that or there is
-- a letter
shown_after : (n : ℕ) (ts us : List JoiningType) → (has_letter ts ≡ true) ⊎ (length (ts ++ us) ≤ n) → ShowsAfter ts us (nearest (take n (ts ++ us)))
shown_after n ts us (inr all) = inl (ap nearest (take_all n (ts ++ us) all))
shown_after n ts us (inl some) = elim (nearest_cut n (ts ++ us)) [
  | inl same ↦ inl same
  | inr none ↦ inr (none.0, some)
]

characters_both : (t : Tables) (us vs : List ℕ) → types_of_characters t (us ++ vs) ≡ types_of_characters t us ++ types_of_characters t vs
characters_both t us vs = map-append (type_of_character t) us vs

-- contexts of the nearest characters show the letters of a text
pub nearest_show : NearestContextsShow
nearest_show t n pre post early_post late_pre earlier later h =
    let es = types_of_characters t earlier in
    let ls = types_of_characters t later in
    let ps = types_of_characters t pre in
    let qs = types_of_characters t post in
    let back : types_of_characters t late_pre ≡ take n (reverse es ++ ps) =
    ap (types_of_characters t) h.before ∙ sym (take-map (type_of_character t) n (reverse earlier ++ pre)) ∙ ap (take n) (characters_both t (reverse earlier) pre ∙ ap (λ us. us ++ ps) (map_reverse (type_of_character t) earlier)) in
    let ahead : types_of_characters t early_post ≡ take n (ls ++ qs) = ap (types_of_characters t) h.after ∙ sym (take-map (type_of_character t) n (later ++ post)) ∙ ap (take n) (characters_both t later post) in
    record {
      before = elim (nearest_cut n (reverse es ++ ps)) [
        | inl same ↦ inl (ap nearest back ∙ same ∙ nearest_back es ps)
        | inr none ↦ inr (ap nearest back ∙ none.0)
      ];
      after = subst (λ us. ShowsAfter ls qs (nearest us)) (sym ahead) (shown_after n ls qs (enough h.letter));
    }
  where
    enough : (has_letter (types_of_characters t later) ≡ true) ⊎ (length (later ++ post) ≤ n) → (has_letter (types_of_characters t later) ≡ true) ⊎ (length (types_of_characters t later ++ types_of_characters t post) ≤ n)
    enough (inl some) = inl some
    enough (inr all) = let same : length (types_of_characters t later ++ types_of_characters t post) ≡ length (later ++ post) = ap length (sym (characters_both t later post)) ∙ length-map (later ++ post) (type_of_character t) in inr (omega (arith, same, all))

-- ---- items for characters

-- the letter before a text sees items as it sees their characters; where a circle is before them, no letter is
pub record IsSeenBack (t : Tables) (pre us : List ℕ) (xs : List Item) : Type 0 where
  pub seen : nearest_after (nearest (types_of_characters t pre)) (types_of_items t xs) ≡ nearest_after (nearest (types_of_characters t pre)) (types_of_characters t us)

pub seen_back : (t : Tables) (pre us : List ℕ) (xs : List Item) → item_ends t xs ≡ ends_of (types_of_characters t us) → IsSeenBack t pre us xs
seen_back t pre us xs e = record {
  seen = let before = nearest (types_of_characters t pre) in last_seen before (types_of_items t xs) ∙ ap (last_or before) e ∙ sym (last_seen before (types_of_characters t us));
}

pub circle_seen : (t : Tables) (b : Bool) (pre us : List ℕ) (xs : List Item) → pre ≡ [] → item_ends t xs ≡ ends_joined (quiet_ends b) (ends_of (types_of_characters t us)) → IsSeenBack t pre us xs
circle_seen t b pre us xs none e = record {
  seen =
      ap (λ ps. nearest_after (nearest (types_of_characters t ps)) (types_of_items t xs)) none ∙ last_seen U (types_of_items t xs) ∙ ap (last_or U) e ∙ by_ends b (ends_of (types_of_characters t us))
      ∙ sym (last_seen U (types_of_characters t us)) ∙ ap (λ ps. nearest_after (nearest (types_of_characters t ps)) (types_of_characters t us)) (sym none);
}
  where
    by_ends : (c : Bool) (q : Ends) → last_or U (ends_joined (quiet_ends c) q) ≡ last_or U q
    by_ends true None = refl
    by_ends true (Some p) = refl
    by_ends false q = refl

-- contexts that show the letters of characters show those of the items for them
pub items_show : (t : Tables) (pre post early_post late_pre us vs : List ℕ) (xs ys : List Item) → CharactersShow t pre post early_post late_pre us vs → IsSeenBack t pre us xs → item_ends t ys ≡ ends_of (types_of_characters t vs)
    → ContextsShow t pre post early_post late_pre xs ys
items_show t pre post early_post late_pre us vs xs ys h back e =
    let shown = nearest (types_of_characters t early_post) in
    let qs = types_of_characters t post in
    let seen : nearest (types_of_items t ys ++ qs) ≡ nearest (types_of_characters t vs ++ qs) = first_seen (types_of_items t ys) qs ∙ ap (first_or (nearest qs)) e ∙ sym (first_seen (types_of_characters t vs) qs) in
    let letter : has_letter (types_of_items t ys) ≡ has_letter (types_of_characters t vs) = letter_seen (types_of_items t ys) ∙ ap is_some e ∙ sym (letter_seen (types_of_characters t vs)) in
    record {
      before = subst (λ (y : JoiningType). ShowsBefore y (nearest (types_of_characters t late_pre))) (sym back.seen) h.before;
      after = elim h.after [
        | inl same ↦ inl (same ∙ sym seen)
        | inr none ↦ inr (none.0, letter ∙ none.1)
      ];
    }
