-- Rows of forms that stay true, and what they say of a consonant.
use Rattle.std.proofs.Common.{ℕ, zero, suc, ◌≡◌, ◌<◌, Bool, true, false, if◌then◌else◌, List, [], ◌∷◌, length, get_or, set, replicate, Option, None, Some, refl, sym, ap, ◌∙◌, arith}
use Rattle.script_categories.specs.declared.ot_position_t.TheConstants as position
use Rattle.buffer_glyphs.specs.Items.{Item}
use Rattle.script_indic_reordering.specs.declared.consonants.KnownForm.{KnownForm}
use Rattle.script_indic_reordering.specs.Base.{Forms}
use Rattle.script_indic_reordering.specs.Glyphs.{is_consonant, with_position}
use Rattle.script_indic_reordering.specs.KnownForms.{AreKnown, IsKnown, formed_position}
use Rattle.script_indic_reordering.specs.Orders.{consonant_position, consonant_with_position, forms_with}

-- ---- rows

pub none_known : (forms : Forms) (virama n : ℕ) → AreKnown forms virama (replicate n (record { glyph = None; position = None }))
none_known forms virama zero = tt
none_known forms virama (suc n) = ((λ k e. absurd (let bad = e in cc)), none_known forms virama n)

pub known_at : (forms : Forms) (virama i : ℕ) (rows : List KnownForm) (d : KnownForm) → i < length rows → AreKnown forms virama rows → IsKnown forms virama (get_or rows i d)
known_at forms virama i [] d lt h = absurd (omega (arith, lt))
known_at forms virama zero (r ∷ rows) d lt h = h.0
known_at forms virama (suc i) (r ∷ rows) d lt h = known_at forms virama i rows d (omega (arith, lt)) h.1

pub known_with : (forms : Forms) (virama i : ℕ) (rows : List KnownForm) (r : KnownForm) → AreKnown forms virama rows → IsKnown forms virama r → AreKnown forms virama (set rows i r)
known_with forms virama i [] r h k = tt
known_with forms virama zero (s ∷ rows) r h k = (k, h.1)
known_with forms virama (suc i) (s ∷ rows) r h k = (h.0, known_with forms virama i rows r h.1 k)

pub row_known : (forms : Forms) (virama i n consonant : ℕ) (rows : List KnownForm) (d : KnownForm) → i < length rows → AreKnown forms virama rows
    → (get_or rows i d).glyph ≡ Some n → n ≡ consonant → (get_or rows i d).position ≡ formed_position forms virama consonant
row_known forms virama i n consonant rows d lt h there e = known_at forms virama i rows d lt h consonant (there ∙ ap Some e)

pub row_made : (forms : Forms) (virama i consonant : ℕ) (at : Option ℕ) (rows : List KnownForm) → AreKnown forms virama rows → at ≡ formed_position forms virama consonant
    → AreKnown forms virama (set rows i (record { glyph = Some consonant; position = at }))
row_made forms virama i consonant at rows h e =
    known_with forms virama i rows (record { glyph = Some consonant; position = at }) h (λ n f. let same : consonant ≡ n = cc in e ∙ ap (formed_position forms virama) same)

-- ---- a consonant

abbrev or_own : Bool → Bool → ℕ → ℕ
or_own below post own = if below then position.POS_BELOW_C else if post then position.POS_POST_C else own

abbrev known_form : Bool → Bool → Option ℕ
known_form below post = if below then Some position.POS_BELOW_C else if post then Some position.POS_POST_C else None

is_formed : (below post : Bool) (own at : ℕ) → Some at ≡ known_form below post → or_own below post own ≡ at
is_formed true post own at e = let f : at ≡ position.POS_BELOW_C = cc in sym f
is_formed false true own at e = let f : at ≡ position.POS_POST_C = cc in sym f
is_formed false false own at e = absurd (let bad = e in cc)

is_unformed : (below post : Bool) (own : ℕ) → None ≡ known_form below post → or_own below post own ≡ own
is_unformed true post own e = absurd (let bad = e in cc)
is_unformed false true own e = absurd (let bad = e in cc)
is_unformed false false own e = refl

consonant_is : (forms : Forms) (virama at : ℕ) (x : Item) → is_consonant x ≡ true → consonant_position forms virama x ≡ at → consonant_with_position forms virama x ≡ with_position at x
consonant_is forms virama at x e f = ap (λ (t : Bool). if t then with_position (consonant_position forms virama x) x else x) e ∙ ap (λ n. with_position n x) f

pub formed_item : (forms : Forms) (virama at : ℕ) (x : Item) → is_consonant x ≡ true → Some at ≡ formed_position forms virama x.number → with_position at x ≡ consonant_with_position forms virama x
formed_item forms virama at x e f = sym (consonant_is forms virama at x e (is_formed (forms_with forms.below virama x.number) (forms_with forms.post virama x.number) x.auxiliary at f))

pub unformed_item : (forms : Forms) (virama : ℕ) (x : Item) → is_consonant x ≡ true → None ≡ formed_position forms virama x.number → x ≡ consonant_with_position forms virama x
unformed_item forms virama x e f = sym (consonant_is forms virama x.auxiliary x e (is_unformed (forms_with forms.below virama x.number) (forms_with forms.post virama x.number) x.auxiliary f))

pub other_item : (forms : Forms) (virama : ℕ) (x : Item) → is_consonant x ≡ false → x ≡ consonant_with_position forms virama x
other_item forms virama x e = sym (ap (λ (t : Bool). if t then with_position (consonant_position forms virama x) x else x) e)
