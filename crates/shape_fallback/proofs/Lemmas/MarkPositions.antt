-- Marks positioned around their bases: those of two texts, one after the other, and under other numbers of ligatures.
use Rattle.std.proofs.Common.{ℕ, suc, ◌≡◌, ◌≤◌, ◌+◌, ◌*◌, ◌==◌, ◌&&◌, ◌||◌, Bool, true, false, not, nat_lt, if◌then◌else◌, List, [], ◌∷◌, ◌++◌, Option, None, Some, length, map, arith, refl, sym, ap, subst, ◌∙◌}
use Rattle.std.specs.Prelude.{◌/◌, ◌%◌}
use Rattle.std.proofs.lemmas.Bool.Decides.{nat_tests}
use Rattle.buffer_common.specs.declared.direction.Direction.{Direction}
use Rattle.buffer_glyphs.specs.Items.{Item, Position}
use Rattle.buffer_glyphs.specs.LigatureWords.{is_lig_base, is_ligature, lig_comp, lig_id, lig_num_comps}
use Rattle.buffer_properties.specs.Characters.{is_mark}
use Rattle.layout_common.specs.Rows.{value_of}
use Rattle.layout_face.specs.declared.parts.FaceParts.{FaceParts}
use Rattle.shape_fallback.specs.Around.{at_class, at_component, base_step, initial_around, is_class, mark_around, mark_step, with_component}
use Rattle.shape_fallback.specs.Bases.{base_of, component_of}
use Rattle.shape_fallback.specs.Boxes.{Box}
use Rattle.shape_fallback.specs.Marks.{after_base, is_left_to_right, positioned_marks, step, step_around, step_of_mark}
use Rattle.shape_fallback.specs.declared.around.Around.{Around}
use Rattle.shape_fallback.specs.declared.around.Placing.{Placing}
use Rattle.shape_fallback.specs.declared.bases.Base.{Base}
use Rattle.shape_fallback.specs.declared.marks.Before.{Before}
use Rattle.shape_fallback.specs.declared.marks.Before.TheVariants.{Boxed, Boxless, Nothing}
use Rattle.shape_fallback.specs.declared.marks.Step.{Step}
use Rattle.buffer_facts.proofs.Bits.{above_29_bits as number_of, bit_28 as kind_of, below_28_bits as part_of}

-- ---- other numbers for ligatures

-- an item with another number of its ligature
abbrev pub with_other_number : (ℕ → ℕ) → Item → Item
with_other_number f x = record x { lig_props = f (lig_id x) * 0x2000_0000 + x.lig_props % 0x2000_0000 }

-- other names keep the numbers up to `last` apart, and 0 as it is
pub record KeepsApart (f : ℕ → ℕ) (last : ℕ) : Type 0 where
  pub none : f 0 ≡ 0
  pub apart : (m n : ℕ) → m ≤ last → n ≤ last → f m ≡ f n → m ≡ n

-- each item's ligature number is at most the last one
abbrev pub AreUpTo : ℕ → List Item → Type 0
AreUpTo last [] = Unit {0}
AreUpTo last (x ∷ xs) = (lig_id x ≤ last) × AreUpTo last xs

-- all items are marks
abbrev pub AreMarks : List Item → Type 0
AreMarks [] = Unit {0}
AreMarks (x ∷ xs) = (is_mark x ≡ true) × AreMarks xs

-- ---- ligature words under other names

number_named : (f : ℕ → ℕ) (x : Item) → lig_id (with_other_number f x) ≡ f (lig_id x)
number_named f x = number_of (f (lig_id x)) x.lig_props

base_named : (f : ℕ → ℕ) (x : Item) → is_lig_base (with_other_number f x) ≡ is_lig_base x
base_named f x = ap (λ (n : ℕ). n == 1) (kind_of (f (lig_id x)) x.lig_props)

component_named : (f : ℕ → ℕ) (x : Item) → lig_comp (with_other_number f x) ≡ lig_comp x
component_named f x =
    ap (λ (b : Bool). if b then 0 else (with_other_number f x).lig_props % 0x1000_0000) (base_named f x)
    ∙ ap (λ (n : ℕ). if is_lig_base x then 0 else n) (part_of (f (lig_id x)) x.lig_props)

components_named : (f : ℕ → ℕ) (x : Item) → lig_num_comps (with_other_number f x) ≡ lig_num_comps x
components_named f x =
    ap (λ (b : Bool). if is_ligature x && b then (with_other_number f x).lig_props % 0x1000_0000 else 1) (base_named f x)
    ∙ ap (λ (n : ℕ). if is_ligature x && is_lig_base x then n else 1) (part_of (f (lig_id x)) x.lig_props)

-- two numbers are the same exactly where their names are
same_names : (f : ℕ → ℕ) (last m n : ℕ) → KeepsApart f last → m ≤ last → n ≤ last → (f m == f n) ≡ (m == n)
same_names f last m n names l k = by_test (m == n) refl (f m == f n) refl
  where
    by_test : (b : Bool) → (m == n) ≡ b → (d : Bool) → (f m == f n) ≡ d → d ≡ b
    by_test true e true g = refl
    by_test false e false g = refl
    by_test true e false g = let same : m ≡ n = grind (arith, nat_tests, e) in absurd (let both : (f n == f n) ≡ false = ap (λ (i : ℕ). f i == f n) (sym same) ∙ g in let here : f n ≡ f n → ⊥ = λ h. grind (arith, nat_tests, both) in here refl)
    by_test false e true g = let same : f m ≡ f n = grind (arith, nat_tests, g) in let is = names.apart m n l k same in absurd (grind (arith, nat_tests, e, is))

none_named : (f : ℕ → ℕ) (last n : ℕ) → KeepsApart f last → n ≤ last → (f n == 0) ≡ (n == 0)
none_named f last n names l = ap (λ (m : ℕ). f n == m) (sym names.none) ∙ same_names f last n 0 names l (omega arith)

-- ---- states under other names

abbrev base_with : (ℕ → ℕ) → Base → Base
base_with f b = record b { lig_id = f b.lig_id }

abbrev around_with : (ℕ → ℕ) → Around → Around
around_with f s = record s { base = base_with f s.base }

abbrev before_with : (ℕ → ℕ) → Before → Before
before_with f Nothing = Nothing
before_with f Boxless = Boxless
before_with f (Boxed s) = Boxed (around_with f s)

abbrev step_with : (ℕ → ℕ) → Step → Step
step_with f s = record { position = s.position; before = before_with f s.before }

-- a base's ligature number is at most the last one
abbrev HasNumber : ℕ → Before → Type 0
HasNumber last Nothing = Unit {0}
HasNumber last Boxless = Unit {0}
HasNumber last (Boxed s) = s.base.lig_id ≤ last

component_same : (f : ℕ → ℕ) (last : ℕ) (b : Base) (x : Item) → KeepsApart f last → b.lig_id ≤ last → lig_id x ≤ last → component_of (base_with f b) (with_other_number f x) ≡ component_of b x
component_same f last b x names l k =
    ap (λ (t : Bool). if (t || not (lig_id (with_other_number f x) == f b.lig_id)) || nat_lt b.components (lig_comp (with_other_number f x)) then b.components else lig_comp (with_other_number f x)) (none_named f last b.lig_id names l)
    ∙ ap (λ (n : ℕ). if (b.lig_id == 0 || not (n == f b.lig_id)) || nat_lt b.components (lig_comp (with_other_number f x)) then b.components else lig_comp (with_other_number f x)) (number_named f x)
    ∙ ap (λ (t : Bool). if (b.lig_id == 0 || not t) || nat_lt b.components (lig_comp (with_other_number f x)) then b.components else lig_comp (with_other_number f x)) (same_names f last (lig_id x) b.lig_id names k l)
    ∙ ap (λ (n : ℕ). if (b.lig_id == 0 || not (lig_id x == b.lig_id)) || nat_lt b.components n then b.components else n) (component_named f x)

at_component_named : (f : ℕ → ℕ) (last : ℕ) (left_to_right : Bool) (x : Item) (s : Around) → KeepsApart f last → s.base.lig_id ≤ last → lig_id x ≤ last
    → at_component left_to_right (with_other_number f x) (around_with f s) ≡ around_with f (at_component left_to_right x s)
at_component_named f last left_to_right x s names l k =
    ap (λ (n : ℕ). if nat_lt 1 s.base.components && not (n == s.last_component) then with_component left_to_right n (around_with f s) else around_with f s) (component_same f last s.base x names l k)
    ∙ by_test (nat_lt 1 s.base.components && not (component_of s.base x == s.last_component))
  where
    by_test : (b : Bool) → (if b then with_component left_to_right (component_of s.base x) (around_with f s) else around_with f s) ≡ around_with f (if b then with_component left_to_right (component_of s.base x) s else s)
    by_test true = refl
    by_test false = refl

at_class_named : (f : ℕ → ℕ) (class : ℕ) (s : Around) → at_class class (around_with f s) ≡ around_with f (at_class class s)
at_class_named f class s = by_test (is_class class s.last_class)
  where
    by_test : (b : Bool) → (if b then around_with f s else record (around_with f s) { extents = s.component; last_class = Some class }) ≡ around_with f (if b then s else record s { extents = s.component; last_class = Some class })
    by_test true = refl
    by_test false = refl

mark_step_named : (f : ℕ → ℕ) (font : FaceParts) (d : Direction) (x : Item) (p : Position) (s : Around) → step_around (mark_step font d (with_other_number f x) p (around_with f s)) ≡ step_with f (step_around (mark_step font d x p s))
mark_step_named f font d x p s = refl

around_named : (f : ℕ → ℕ) (last : ℕ) (font : FaceParts) (by : Placing) (x : Item) (p : Position) (s : Around) → KeepsApart f last → s.base.lig_id ≤ last → lig_id x ≤ last
    → step_around (mark_around font by (with_other_number f x) p (around_with f s)) ≡ step_with f (step_around (mark_around font by x p s))
around_named f last font by x p s names l k = by_test (x.class == 0)
  where
    moved : at_class x.class (at_component by.left_to_right (with_other_number f x) (around_with f s)) ≡ around_with f (at_class x.class (at_component by.left_to_right x s))
    moved = ap (at_class x.class) (at_component_named f last by.left_to_right x s names l k) ∙ at_class_named f x.class (at_component by.left_to_right x s)

    by_test : (b : Bool) → step_around (if b then base_step by.direction p (around_with f s) else mark_step font by.direction (with_other_number f x) p (at_class x.class (at_component by.left_to_right (with_other_number f x) (around_with f s)))) ≡ step_with f (step_around (if b then base_step by.direction p s else mark_step font by.direction x p (at_class x.class (at_component by.left_to_right x s))))
    by_test true = refl
    by_test false = ap (λ (t : Around). step_around (mark_step font by.direction (with_other_number f x) p t)) moved ∙ mark_step_named f font by.direction x p (at_class x.class (at_component by.left_to_right x s))

mark_named : (f : ℕ → ℕ) (last : ℕ) (font : FaceParts) (by : Placing) (x : Item) (p : Position) (b : Before) → KeepsApart f last → HasNumber last b → lig_id x ≤ last
    → step_of_mark font by (with_other_number f x) p (before_with f b) ≡ step_with f (step_of_mark font by x p b)
mark_named f last font by x p Nothing names h k = refl
mark_named f last font by x p Boxless names h k = refl
mark_named f last font by x p (Boxed s) names h k = around_named f last font by x p s names h k

base_named_of : (f : ℕ → ℕ) (font : FaceParts) (x : Item) (p : Position) (e : Box) → base_of font (with_other_number f x) p e ≡ base_with f (base_of font x p e)
base_named_of f font x p e =
    ap (λ (n : ℕ). record (base_of font x p e) { lig_id = n; components = lig_num_comps (with_other_number f x) }) (number_named f x)
    ∙ ap (λ (n : ℕ). record (base_of font x p e) { lig_id = f (lig_id x); components = n }) (components_named f x)

after_named : (f : ℕ → ℕ) (font : FaceParts) (d : Direction) (x : Item) (p : Position) (o : Option Box) → after_base font d (with_other_number f x) p o ≡ before_with f (after_base font d x p o)
after_named f font d x p None = refl
after_named f font d x p (Some e) = ap (λ (b : Base). Boxed (initial_around d p b)) (base_named_of f font x p e)

step_named : (f : ℕ → ℕ) (last : ℕ) (font : FaceParts) (by : Placing) (x : Item) (p : Position) (b : Before) → KeepsApart f last → HasNumber last b → lig_id x ≤ last
    → step font by (with_other_number f x) p (before_with f b) ≡ step_with f (step font by x p b)
step_named f last font by x p b names h k = by_test (is_mark x)
  where
    by_test : (t : Bool) → (if t then step_of_mark font by (with_other_number f x) p (before_with f b) else record { position = p; before = after_base font by.direction (with_other_number f x) p (value_of x.number font.extents) })
        ≡ step_with f (if t then step_of_mark font by x p b else record { position = p; before = after_base font by.direction x p (value_of x.number font.extents) })
    by_test true = mark_named f last font by x p b names h k
    by_test false = ap (λ (t : Before). record { position = p; before = t }) (after_named f font by.direction x p (value_of x.number font.extents))

-- ---- after an item the base has the number that it had, or the item's

around_keeps : (font : FaceParts) (by : Placing) (x : Item) (p : Position) (s : Around) → (mark_around font by x p s).around.base ≡ s.base
around_keeps font by x p s = by_test (x.class == 0)
  where
    moved : (b t : Bool) → (if t then (if b then with_component by.left_to_right (component_of s.base x) s else s) else record (if b then with_component by.left_to_right (component_of s.base x) s else s) { extents = (if b then with_component by.left_to_right (component_of s.base x) s else s).component; last_class = Some x.class }).base ≡ s.base
    moved true true = refl
    moved true false = refl
    moved false true = refl
    moved false false = refl

    by_test : (b : Bool) → (if b then base_step by.direction p s else mark_step font by.direction x p (at_class x.class (at_component by.left_to_right x s))).around.base ≡ s.base
    by_test true = refl
    by_test false = moved (nat_lt 1 s.base.components && not (component_of s.base x == s.last_component)) (is_class x.class (at_component by.left_to_right x s).last_class)

mark_keeps : (last : ℕ) (font : FaceParts) (by : Placing) (x : Item) (p : Position) (b : Before) → HasNumber last b → HasNumber last (step_of_mark font by x p b).before
mark_keeps last font by x p Nothing h = tt
mark_keeps last font by x p Boxless h = tt
mark_keeps last font by x p (Boxed s) h = subst (λ (b : Base). b.lig_id ≤ last) (sym (around_keeps font by x p s)) h

after_keeps : (last : ℕ) (font : FaceParts) (d : Direction) (x : Item) (p : Position) (o : Option Box) → lig_id x ≤ last → HasNumber last (after_base font d x p o)
after_keeps last font d x p None h = tt
after_keeps last font d x p (Some e) h = h

step_keeps : (last : ℕ) (font : FaceParts) (by : Placing) (x : Item) (p : Position) (b : Before) → HasNumber last b → lig_id x ≤ last → HasNumber last (step font by x p b).before
step_keeps last font by x p b h k = by_test (is_mark x)
  where
    by_test : (t : Bool) → HasNumber last (if t then step_of_mark font by x p b else record { position = p; before = after_base font by.direction x p (value_of x.number font.extents) }).before
    by_test true = mark_keeps last font by x p b h
    by_test false = after_keeps last font by.direction x p (value_of x.number font.extents) k

-- ---- lists

placed_named : (f : ℕ → ℕ) (last : ℕ) (font : FaceParts) (by : Placing) (b : Before) (xs : List Item) (ps : List Position) → KeepsApart f last → HasNumber last b → AreUpTo last xs
    → positioned_marks font by (before_with f b) (map (with_other_number f) xs) ps ≡ positioned_marks font by b xs ps
placed_named f last font by b [] ps names h k = refl
placed_named f last font by b (x ∷ xs) [] names h k = refl
placed_named f last font by b (x ∷ xs) (p ∷ ps) names h k =
    ap (λ (s : Step). s.position ∷ positioned_marks font by s.before (map (with_other_number f) xs) ps) (step_named f last font by x p b names h k.0)
    ∙ ap (λ qs. (step font by x p b).position ∷ qs) (placed_named f last font by (step font by x p b).before xs ps names (step_keeps last font by x p b h k.0) k.1)

-- positions of a text by itself are those under other names
alone_named : (f : ℕ → ℕ) (last : ℕ) (font : FaceParts) (by : Placing) (xs : List Item) (ps : List Position) → KeepsApart f last → AreUpTo last xs
    → positioned_marks font by Nothing (map (with_other_number f) xs) ps ≡ positioned_marks font by Nothing xs ps
alone_named f last font by xs ps names k = placed_named f last font by Nothing xs ps names tt k

-- what is before the items that follow others
abbrev before_past : FaceParts → Placing → Before → List Item → List Position → Before
before_past font by b [] ps = b
before_past font by b (x ∷ xs) [] = b
before_past font by b (x ∷ xs) (p ∷ ps) = before_past font by (step font by x p b).before xs ps

placed_both : (font : FaceParts) (by : Placing) (b : Before) (xs ys : List Item) (ps qs : List Position) → length ps ≡ length xs
    → positioned_marks font by b (xs ++ ys) (ps ++ qs) ≡ positioned_marks font by b xs ps ++ positioned_marks font by (before_past font by b xs ps) ys qs
placed_both font by b [] ys [] qs e = refl
placed_both font by b [] ys (p ∷ ps) qs e = absurd (omega (arith, e))
placed_both font by b (x ∷ xs) ys [] qs e = absurd (omega (arith, e))
placed_both font by b (x ∷ xs) ys (p ∷ ps) qs e = ap (λ rs. (step font by x p b).position ∷ rs) (placed_both font by (step font by x p b).before xs ys ps qs (omega (arith, e)))

-- a base and the items after it get the same positions whatever is before them
placed_at_base : (font : FaceParts) (by : Placing) (b : Before) (y : Item) (ys : List Item) (qs : List Position) → is_mark y ≡ false → positioned_marks font by b (y ∷ ys) qs ≡ positioned_marks font by Nothing (y ∷ ys) qs
placed_at_base font by b y ys [] e = refl
placed_at_base font by b y ys (q ∷ qs) e = ap (λ (s : Step). s.position ∷ positioned_marks font by s.before ys qs) (at_base b ∙ sym (at_base Nothing))
  where
    at_base : (b : Before) → step font by y q b ≡ record { position = q; before = after_base font by.direction y q (value_of y.number font.extents) }
    at_base b = ap (λ (t : Bool). if t then step_of_mark font by y q b else record { position = q; before = after_base font by.direction y q (value_of y.number font.extents) }) e

-- where all items before it are marks, an item has no base
none_past : (font : FaceParts) (by : Placing) (xs : List Item) (ps : List Position) → AreMarks xs → before_past font by Nothing xs ps ≡ Nothing
none_past font by [] ps h = refl
none_past font by (x ∷ xs) [] h = refl
none_past font by (x ∷ xs) (p ∷ ps) h =
    ap (λ (t : Bool). before_past font by (if t then step_of_mark font by x p Nothing else record { position = p; before = after_base font by.direction x p (value_of x.number font.extents) }).before xs ps) h.0 ∙ none_past font by xs ps h.1

placed_many : (font : FaceParts) (by : Placing) (b : Before) (xs : List Item) (ps : List Position) → length ps ≡ length xs → length (positioned_marks font by b xs ps) ≡ length ps
placed_many font by b [] ps e = omega (arith, e)
placed_many font by b (x ∷ xs) [] e = refl
placed_many font by b (x ∷ xs) (p ∷ ps) e = ap suc (placed_many font by (step font by x p b).before xs ps (omega (arith, e)))

-- ---- views

-- the positions of items in a text of a direction, with marks around their bases
abbrev pub positions_around : FaceParts → Direction → Bool → Direction → List Item → List Position → List Position
positions_around font components adjust d xs ps = positioned_marks font (record { direction = d; left_to_right = is_left_to_right components; adjust_offsets = adjust }) Nothing xs ps

pub around_many : (font : FaceParts) (components : Direction) (adjust : Bool) (d : Direction) (xs : List Item) (ps : List Position) → length ps ≡ length xs → length (positions_around font components adjust d xs ps) ≡ length ps
around_many font components adjust d xs ps e = placed_many font (record { direction = d; left_to_right = is_left_to_right components; adjust_offsets = adjust }) Nothing xs ps e

pub around_renamed : (f : ℕ → ℕ) (last : ℕ) (font : FaceParts) (components : Direction) (adjust : Bool) (d : Direction) (xs : List Item) (ps : List Position) → KeepsApart f last → AreUpTo last xs
    → positions_around font components adjust d (map (with_other_number f) xs) ps ≡ positions_around font components adjust d xs ps
around_renamed f last font components adjust d xs ps names h = alone_named f last font (record { direction = d; left_to_right = is_left_to_right components; adjust_offsets = adjust }) xs ps names h

-- two texts, one after the other, of which the second begins with a base
pub around_base : (font : FaceParts) (components : Direction) (adjust : Bool) (d : Direction) (xs : List Item) (y : Item) (ys : List Item) (ps qs : List Position) → length ps ≡ length xs → is_mark y ≡ false
    → positions_around font components adjust d (xs ++ y ∷ ys) (ps ++ qs) ≡ positions_around font components adjust d xs ps ++ positions_around font components adjust d (y ∷ ys) qs
around_base font components adjust d xs y ys ps qs e base =
    let by : Placing = record { direction = d; left_to_right = is_left_to_right components; adjust_offsets = adjust } in
    placed_both font by Nothing xs (y ∷ ys) ps qs e ∙ ap (λ rs. positioned_marks font by Nothing xs ps ++ rs) (placed_at_base font by (before_past font by Nothing xs ps) y ys qs base)

-- two texts, one after the other, of which the first has no base
pub around_marks : (font : FaceParts) (components : Direction) (adjust : Bool) (d : Direction) (xs ys : List Item) (ps qs : List Position) → length ps ≡ length xs → AreMarks xs
    → positions_around font components adjust d (xs ++ ys) (ps ++ qs) ≡ positions_around font components adjust d xs ps ++ positions_around font components adjust d ys qs
around_marks font components adjust d xs ys ps qs e marks =
    let by : Placing = record { direction = d; left_to_right = is_left_to_right components; adjust_offsets = adjust } in
    placed_both font by Nothing xs ys ps qs e ∙ ap (λ (b : Before). positioned_marks font by Nothing xs ps ++ positioned_marks font by b ys qs) (none_past font by xs ps marks)
