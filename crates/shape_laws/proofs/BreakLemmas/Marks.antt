-- Where two texts, one after the other, are normalized each by itself, by their characters.
use Rattle.std.proofs.Common.{ℕ, ◌≡◌, ◌≤◌, ◌<◌, ◌-◌, ◌*◌, ◌%◌, ◌/◌, ◌==◌, ◌||◌, ◌&&◌, ◌⊎◌, inl, inr, not, Bool, true, false, if◌then◌else◌, List, [], ◌∷◌, ◌++◌, length, drop, map, Option, None, Some, is_some, arith, refl, sym, ap, subst, ◌∙◌}
use Rattle.std.specs.Int.RustNames.{bit_and}
use Rattle.std.specs.List.{list_any}
use Rattle.std.proofs.lemmas.Bool.{cases_Bool, cond-true, cond-false}
use Rattle.std.proofs.lemmas.Nat.{and_mask, and_or_apart}
use Rattle.std.proofs.lemmas.Nat.Bits.{and_high}
use Rattle.buffer_common.specs.Direction.{is_backward, is_vertical}
use Rattle.buffer_common.specs.declared.direction.Direction.{Direction}
use Rattle.buffer_unicode_tables.specs.Tables.{counterpart_in}
use Rattle.buffer_glyphs.specs.Items.{Item}
use Rattle.buffer_core.specs.Readings.{View}
use Rattle.buffer_properties.proofs.Classes.{mark_numbers}
use Rattle.buffer_properties.proofs.Words.{continuation_leaves, low_bits_are_the_category}
use Rattle.buffer_properties.specs.Characters.{is_mark, is_mark_number}
use Rattle.buffer_properties.specs.NormalizedList.{has_later_mark}
use Rattle.buffer_properties.specs.Normalizer.{Normalizer}
use Rattle.buffer_properties.specs.Properties.{is_mark_character, properties_of, without_bits}
use Rattle.layout_face.specs.declared.parts.FaceParts.{FaceParts}
use Rattle.layout_face.specs.Glyphs.{nominal_glyph}
use lib.Utf8.{scalar}
use Rattle.unicode.specs.GeneralCategory.{general_category}
use Rattle.buffer_unicode.specs.Category.{category_number}
use Rattle.shape_text.specs.declared.graphemes.Before.{Before}
use Rattle.shape_text.specs.Circle.{DOTTED_CIRCLE, circle_like}
use Rattle.shape_text.specs.Graphemes.{continues}
use Rattle.shape_text.specs.NativeOrder.{without_continuation}
use Rattle.shape_text.specs.Properties.{items_prepared, next_before, prepared_item, property_word_of}
use Rattle.shape_text.specs.Rotation.{if_known, mapped_where, mirror_image, mirrored_item, mirrored_or, upright_or, vertical_form, with_rotated_characters, with_vertical_form}
use Rattle.shape_laws.specs.Breaks.Characters.{CounterpartKeepsMarks, HaveLikeMarks, KeepsMarks, MayBreak, OrderEndsUnjoined, characters, ends_with_joiner, last_joined}
use Rattle.shape_laws.specs.Breaks.Normalizing.{AreNormalizedApart, is_joiner}
use Rattle.shape_laws.proofs.BreakLemmas.Unjoined.{AreLow, IsLow, IsPlainly, begins_alone, expanded_begins, joiner_low, ordered_ends}

-- ---- an item of a character

-- an item at normalizing is of a character of the text: it is a mark where the character is one, what stands for it is no
-- mark where the character is none, and it is U+034F only where the character is that, with class 0
pub record IsOf (u : ℕ) (z : Item) : Type 0 where
  pub mark : is_mark z ≡ is_mark_character u
  pub plain : is_mark_character u ≡ false → is_mark_character z.number ≡ false
  pub alone : (u == 0x34F) ≡ false → is_joiner z ≡ false
  pub low : IsLow z

-- items are of characters
abbrev pub AreOf : List ℕ → List Item → Type 0
AreOf [] [] = Unit {0}
AreOf [] (z ∷ zs) = ⊥
AreOf (u ∷ us) [] = ⊥
AreOf (u ∷ us) (z ∷ zs) = IsOf u z × AreOf us zs

low_bits_stay : (p q r : ℕ) → r ≡ q * 128 → r ≤ p → (p - r) % 32 ≡ p % 32
low_bits_stay p q r e le = omega (arith, e, le)

bit_within : (p : ℕ) → bit_and p 128 ≤ p
bit_within p = let e = and_high p 1 7 in omega (arith, e)

-- the category of a word without the continuation bit
pub category_left : (p : ℕ) → bit_and (without_bits 0x80 p) 0x1F ≡ bit_and p 0x1F
category_left p =
    let e : bit_and p 128 ≡ (p / 128 % 2) * 128 = and_high p 1 7 in
    and_mask (without_bits 0x80 p) 5 ∙ (low_bits_stay p (p / 128 % 2) (bit_and p 128) e (bit_within p) ∙ sym (and_mask p 5))

pub word_category : (b : Bool) (u : ℕ) → bit_and (property_word_of b u) 0x1F ≡ category_number (general_category u)
word_category true u = and_or_apart 0x1F (properties_of u) 0x80 refl ∙ low_bits_are_the_category u
word_category false u = low_bits_are_the_category u

prepared_is : (k : Normalizer) (b : Bool) (x : Item) → KeepsMarks k → IsOf x.number (without_continuation (prepared_item k.tables b x))
prepared_is k b x h = record {
  mark = ap is_mark_number (category_left (property_word_of b x.number) ∙ word_category b x.number) ∙ mark_numbers (general_category x.number);
  plain = λ e. e;
  alone = λ e. e;
  low = λ joined. joiner_low k.tables (is_mark (without_continuation (prepared_item k.tables b x))) x.number h.joiner_class joined;
}

circle_is : (k : Normalizer) (x : Item) → IsOf DOTTED_CIRCLE (without_continuation (circle_like k.tables x))
circle_is k x = record {
  mark = ap (λ w. is_mark_number (bit_and w 0x1F)) (continuation_leaves DOTTED_CIRCLE) ∙ ap is_mark_number (low_bits_are_the_category DOTTED_CIRCLE) ∙ mark_numbers (general_category DOTTED_CIRCLE);
  plain = λ e. e;
  alone = λ e. refl;
  low = λ joined. let off : (DOTTED_CIRCLE == 0x34F) ≡ false = refl in cc;
}

-- ---- mirrored characters and vertical forms

pub known_is : (b : Bool) (font : FaceParts) (o : Option ℕ) (v : ℕ) → (if b then if_known font o else None) ≡ Some v → o ≡ Some v
known_is false font o v e = absurd (let none : None ≡ Some v = e in cc)
known_is true font None v e = absurd (let none : None ≡ Some v = e in cc)
known_is true font (Some u) v e = elim (cases_Bool (is_some (nominal_glyph u font))) [
  | inl found ↦ sym (cond-true _ _ _ found) ∙ e
  | inr lacks ↦ absurd (let none : None ≡ Some v = sym (cond-false _ _ _ lacks) ∙ e in cc)
]

standing_is : (k : Normalizer) (u v : ℕ) (z : Item) → CounterpartKeepsMarks z.number (Some v) → IsOf u z → IsOf u (record z { number = v })
standing_is k u v z c p = record {
  mark = p.mark;
  plain = λ e. c.0 (p.plain e);
  alone = λ e. c.1;
  low = λ joined. let off = c.1 in cc;
}

mirrored_is : (k : Normalizer) (font : FaceParts) (mask u : ℕ) (z : Item) → KeepsMarks k → IsOf u z → IsOf u (mirrored_item k.tables font mask z)
mirrored_is k font mask u z h p = by_image (mirror_image k.tables font z.number) refl
  where
    by_image : (o : Option ℕ) → mirror_image k.tables font z.number ≡ o → IsOf u (mirrored_or mask z o)
    by_image None e = record { mark = p.mark; plain = p.plain; alone = p.alone; low = p.low }
    by_image (Some v) e = standing_is k u v z (subst (CounterpartKeepsMarks z.number) (known_is (scalar z.number) font (counterpart_in k.tables.mirrored z.number) v e) (h.mirrored z.number)) p

upright_is : (k : Normalizer) (font : FaceParts) (u : ℕ) (z : Item) → KeepsMarks k → IsOf u z → IsOf u (with_vertical_form k.tables font z)
upright_is k font u z h p = by_form (vertical_form k.tables font z.number) refl
  where
    by_form : (o : Option ℕ) → vertical_form k.tables font z.number ≡ o → IsOf u (upright_or z o)
    by_form None e = p
    by_form (Some v) e = standing_is k u v z (subst (CounterpartKeepsMarks z.number) (known_is (scalar z.number) font (counterpart_in k.tables.vertical z.number) v e) (h.vertical z.number)) p

each_is : (f : Item → Item) (us : List ℕ) (zs : List Item) → ((u : ℕ) (z : Item) → IsOf u z → IsOf u (f z)) → AreOf us zs → AreOf us (map f zs)
each_is f [] [] h p = p
each_is f [] (z ∷ zs) h p = absurd p
each_is f (u ∷ us) [] h p = absurd p
each_is f (u ∷ us) (z ∷ zs) h p = (h u z p.0, each_is f us zs h p.1)

where_is : (b : Bool) (f : Item → Item) (us : List ℕ) (v : View) → ((u : ℕ) (z : Item) → IsOf u z → IsOf u (f z)) → AreOf us v.items → AreOf us (mapped_where b f v).view.items
where_is true f us v h p = each_is f us v.items h p
where_is false f us v h p = p

pub rotated_are : (k : Normalizer) (font : FaceParts) (d : Direction) (mask : ℕ) (has_vert : Bool) (us : List ℕ) (v : View) → KeepsMarks k → AreOf us v.items → AreOf us (with_rotated_characters k.tables font d mask has_vert v).view.items
rotated_are k font d mask has_vert us v h p =
    let first = mapped_where (is_backward d) (mirrored_item k.tables font mask) v in
    where_is (is_vertical d && not has_vert) (with_vertical_form k.tables font) us first.view (λ u z. upright_is k font u z h)
    (where_is (is_backward d) (mirrored_item k.tables font mask) us v (λ u z. mirrored_is k font mask u z h) p)

-- ---- the items of a text

pub prepared_are : (k : Normalizer) (before : Option Before) (xs : List Item) → KeepsMarks k → AreOf (characters xs) (map without_continuation (items_prepared k.tables before xs))
prepared_are k before [] h = tt
prepared_are k before (x ∷ xs) h = (prepared_is k (continues k.tables before x.number) x h, prepared_are k (Some (next_before k.tables before x.number)) xs h)

pub circled_are : (k : Normalizer) (x : Item) (us : List ℕ) (zs : List Item) → AreOf us zs → AreOf (DOTTED_CIRCLE ∷ us) (without_continuation (circle_like k.tables x) ∷ zs)
circled_are k x us zs p = (circle_is k x, p)

pub marks_are : (us : List ℕ) (zs : List Item) → AreOf us zs → list_any is_mark zs ≡ list_any is_mark_character us
marks_are [] [] p = refl
marks_are [] (z ∷ zs) p = absurd p
marks_are (u ∷ us) [] p = absurd p
marks_are (u ∷ us) (z ∷ zs) p = rw (p.0.mark, marks_are us zs p.1) refl

later_are : (us : List ℕ) (zs : List Item) → AreOf us zs → has_later_mark zs ≡ list_any is_mark_character (drop 1 us)
later_are [] [] p = refl
later_are [] (z ∷ zs) p = absurd p
later_are (u ∷ us) [] p = absurd p
later_are (u ∷ us) (z ∷ zs) p = marks_are us zs p.1

pub low_are : (us : List ℕ) (zs : List Item) → AreOf us zs → AreLow zs
low_are [] [] p = tt
low_are [] (z ∷ zs) p = absurd p
low_are (u ∷ us) [] p = absurd p
low_are (u ∷ us) (z ∷ zs) p = (p.0.low, low_are us zs p.1)

last_is : (before d : Bool) (us : List ℕ) (zs : List Item) → AreOf us zs → (d ≡ false) ⊎ (before ≡ true) → ends_with_joiner before us ≡ false → last_joined d zs ≡ false
last_is before d [] [] p (inl e) h = e
last_is before d [] [] p (inr e) h = cc
last_is before d [] (z ∷ zs) p e h = absurd p
last_is before d (u ∷ us) [] p e h = absurd p
last_is before d (u ∷ us) (z ∷ zs) p e h = last_is (u == 0x34F) (is_joiner z) us zs p.1 (by_test (u == 0x34F) refl) h
  where
    by_test : (b : Bool) → (u == 0x34F) ≡ b → (is_joiner z ≡ false) ⊎ (b ≡ true)
    by_test true f = inr refl
    by_test false f = inl (p.0.alone f)

-- ---- two texts

-- a text at normalizing: where characters have a mark after the first, so has the text, and where they have none, it has
-- none; and it has an item
pub record ShowsMarks (us : List ℕ) (zs : List Item) : Type 0 where
  pub later : list_any is_mark_character (drop 1 us) ≡ true → has_later_mark zs ≡ true
  pub none : list_any is_mark_character us ≡ false → list_any is_mark zs ≡ false
  pub some : 0 < length zs

pub shows_marks : (us : List ℕ) (zs : List Item) → AreOf us zs → 0 < length zs → ShowsMarks us zs
shows_marks us zs p some = record { later = λ e. later_are us zs p ∙ e; none = λ e. marks_are us zs p ∙ e; some = some }

later_any : (us : List ℕ) → list_any is_mark_character (drop 1 us) ≡ true → list_any is_mark_character us ≡ true
later_any [] e = cc
later_any (u ∷ us) e = by_test (is_mark_character u)
  where
    by_test : (b : Bool) → (b || list_any is_mark_character us) ≡ true
    by_test true = refl
    by_test false = e

-- one with a circle before it has a mark
pub circled_shows : (u : ℕ) (us : List ℕ) (zs : List Item) → AreOf (u ∷ us) zs → list_any is_mark_character us ≡ true → 0 < length zs → ShowsMarks us zs
circled_shows u us zs p marked some = record {
  later = λ e. later_are (u ∷ us) zs p ∙ marked;
  none = λ e. cc;
  some = some;
}

pub none_later : (zs : List Item) → list_any is_mark zs ≡ false → has_later_mark zs ≡ false
none_later [] e = refl
none_later (z ∷ zs) e = by_test (is_mark z) e
  where
    by_test : (b : Bool) → (b || list_any is_mark zs) ≡ false → list_any is_mark zs ≡ false
    by_test true f = cc
    by_test false f = f

pub any_both : (xs ys : List Item) → list_any is_mark (xs ++ ys) ≡ (list_any is_mark xs || list_any is_mark ys)
any_both [] ys = refl
any_both (x ∷ xs) ys = ap (λ b. is_mark x || b) (any_both xs ys) ∙ by_test (is_mark x)
  where
    by_test : (b : Bool) → (b || (list_any is_mark xs || list_any is_mark ys)) ≡ ((b || list_any is_mark xs) || list_any is_mark ys)
    by_test true = refl
    by_test false = refl

pub later_both : (xs ys : List Item) → 0 < length xs → has_later_mark (xs ++ ys) ≡ (has_later_mark xs || list_any is_mark ys)
later_both [] ys some = absurd (omega (arith, some))
later_both (x ∷ xs) ys some = any_both xs ys

-- the marks of both texts, and of the two together
like_marks : (us vs : List ℕ) (xs ys : List Item) → HaveLikeMarks us vs → ShowsMarks us xs → ShowsMarks vs ys → (has_later_mark xs ≡ has_later_mark (xs ++ ys)) × (has_later_mark ys ≡ has_later_mark (xs ++ ys))
like_marks us vs xs ys (inl both) p q =
    let early = p.later both.0 in
    let late = q.later both.1 in
    let all : has_later_mark (xs ++ ys) ≡ true = later_both xs ys p.some ∙ ap (λ b. b || list_any is_mark ys) early in
    (early ∙ sym all, late ∙ sym all)
like_marks us vs xs ys (inr neither) p q =
    let early = none_later xs (p.none neither.0) in
    let none = q.none neither.1 in
    let late = none_later ys none in
    let all : has_later_mark (xs ++ ys) ≡ false = later_both xs ys p.some ∙ ap (λ b. b || list_any is_mark ys) early ∙ none in
    (early ∙ sym all, late ∙ sym all)

-- what an earlier text is at normalizing
pub record IsEarly (us : List ℕ) (xs : List Item) : Type 0 where
  pub shows : ShowsMarks us xs
  pub low : AreLow xs
  pub ends : ends_with_joiner false us ≡ false → last_joined false xs ≡ false

pub early_is : (us : List ℕ) (xs : List Item) → AreOf us xs → 0 < length xs → IsEarly us xs
early_is us xs p some = record { shows = shows_marks us xs p some; low = low_are us xs p; ends = λ e. last_is false false us xs p (inl refl) e }

pub circled_early : (us : List ℕ) (xs : List Item) → AreOf (DOTTED_CIRCLE ∷ us) xs → list_any is_mark_character us ≡ true → 0 < length xs → IsEarly us xs
circled_early us xs p marked some = record {
  shows = circled_shows DOTTED_CIRCLE us xs p marked some;
  low = low_are (DOTTED_CIRCLE ∷ us) xs p;
  ends = λ e. last_is false false (DOTTED_CIRCLE ∷ us) xs p (inl refl) e;
}

-- two texts are normalized each by itself, where the later one begins with no mark
pub characters_apart : (k : Normalizer) (us vs : List ℕ) (v : ℕ) (xs ys : List Item) → KeepsMarks k → OrderEndsUnjoined k.reorders → MayBreak us (v ∷ vs) → is_mark_character v ≡ false → IsEarly us xs → AreOf (v ∷ vs) ys → AreNormalizedApart k xs ys
characters_apart k us vs v xs [] h ends may e early late = absurd late
characters_apart k us vs v xs (y ∷ ys) h ends may e early late =
    let plainly : IsPlainly y = (late.0.mark ∙ e, late.0.plain e) in
    let like = like_marks us (v ∷ vs) xs (y ∷ ys) may.marks early.shows (shows_marks (v ∷ vs) (y ∷ ys) late (omega arith)) in
    record {
      begins = begins_alone k y ys h plainly;
      expanded = expanded_begins k y ys h plainly;
      early_marks = like.0;
      late_marks = like.1;
      ends = ordered_ends (has_later_mark (xs ++ y ∷ ys)) k xs h ends early.low (early.ends may.ends);
    }
