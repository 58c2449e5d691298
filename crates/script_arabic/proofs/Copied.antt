-- Copies of the current glyph that are appended to the output.
use Rattle.std.proofs.Common.{ℕ, zero, suc, ◌≡◌, ◌<◌, ◌≤◌, ◌+◌, true, List, [], ◌∷◌, ◌++◌, Some, length, take, drop, refl, sym, ap, subst, ◌∙◌, append_assoc, arith}
use Rattle.std.specs.Prelude.{slice_get, replicate, Result, Ok, Err, OnOk}
use Rattle.std.proofs.lemmas.List.{append-nil, map-append, length-append, length-map, replicate-append-replicate}
use Rattle.buffer_glyphs.specs.declared.cause.ShapeCause.{ShapeCause}
use Rattle.buffer_glyphs.specs.declared.info.hb_glyph_info_t.{hb_glyph_info_t}
use Rattle.buffer_glyphs.specs.Items.{Item, item_of, strip}
use Rattle.buffer_glyphs.specs.Parts.{first_of, last_of, or}
use Rattle.buffer_glyphs.specs.Replacements.{numbered_copies, glyph_numbered}
use Rattle.buffer_glyphs.specs.Events.{Replace}
use Rattle.buffer_core.specs.Readings.{View}
use Rattle.buffer_core.specs.Sides.{Sides, origins_of, origins_by, with_behind}
use Rattle.buffer_core.specs.Merging.{with_output_glyph}
use Rattle.buffer_stages.specs.Walks.{RefusesLength, HasWalked}
use Rattle.buffer_stages.proofs.Lemmas.Walked.{both_walked, nothing_walked}
use Rattle.script_arabic.specs.Copying.{copy_events}

-- a call refuses at a length that others reach too
pub exceeds_more : (m n : ℕ) (e : ShapeCause) (s t : Sides) → t.max_len ≡ s.max_len → m ≤ n → RefusesLength m e t → RefusesLength n e s
exceeds_more m n e s t same le h = λ other. let o = h other in let past = o.1 in (o.0, omega (arith, past, same, le))

events_more : (at n : ℕ) → copy_events at n ++ Replace (at + n) 0 1 ∷ [] ≡ copy_events at (suc n)
events_more at zero = let e : at + 0 ≡ at = omega arith in ap (λ k. Replace k 0 1 ∷ []) e
events_more at (suc n) = let e : at + suc n ≡ at + 1 + n = omega arith in
    ap (λ es. Replace at 0 1 ∷ es) (ap (λ k. copy_events (at + 1) n ++ Replace k 0 1 ∷ []) e ∙ events_more (at + 1) n)

-- that many copies of the current glyph were appended to the output
pub record AreCopied (n : ℕ) (s t : Sides) : Type 0 where
  pub opened : t.is_open ≡ true
  pub there : 0 < length t.ahead
  pub many : length t.behind ≡ length s.behind + n
  pub limit : t.max_len ≡ s.max_len
  pub walked : (x : Item) (xs : List Item) → strip s.ahead ≡ x ∷ xs → HasWalked (strip s.behind ++ replicate n x) (x ∷ xs) (copy_events (length s.behind) n) s t

pub none_copied : (s : Sides) → s.is_open ≡ true → 0 < length s.ahead → AreCopied 0 s s
none_copied s opened there = record {
  opened = opened;
  there = there;
  many = omega arith;
  limit = refl;
  walked = λ x xs seen. let w = nothing_walked s opened in record {
    behind = sym (append-nil (strip s.behind));
    ahead = seen;
    happened = w.happened;
    view = w.view;
    settings = w.settings;
    opened = w.opened;
    unrefused = w.unrefused;
  };
}

-- one copy more
pub more_copied : (n : ℕ) (s t u : Sides) → 0 < length s.ahead → AreCopied n s t
    → ((x : Item) (xs : List Item) → strip t.ahead ≡ x ∷ xs → HasWalked (strip t.behind ++ x ∷ []) (x ∷ xs) (Replace (length t.behind) 0 1 ∷ []) t u) → AreCopied (n + 1) s u
more_copied n s t u some h step = by_ahead s.ahead refl
  where
    by_ahead : (gs : List hb_glyph_info_t) → s.ahead ≡ gs → AreCopied (n + 1) s u
    by_ahead [] e = absurd (let none = ap (λ (ys : List hb_glyph_info_t). length ys) e in omega (arith, none, some))
    by_ahead (g ∷ gs) e =
        let x = item_of g in
        let xs = strip gs in
        let seen : strip s.ahead ≡ x ∷ xs = ap strip e in
        let w = h.walked x xs seen in
        let v = step x xs w.ahead in
        let long : length u.behind ≡ length t.behind + 1 =
        sym (length-map u.behind item_of) ∙ ap (λ (ys : List Item). length ys) v.behind ∙ length-append (strip t.behind) (x ∷ []) ∙ ap (λ k. k + 1) (length-map t.behind item_of) in
        let many = h.many in
        let one : n + 1 ≡ suc n = omega arith in
        let left : length u.ahead ≡ length (x ∷ xs) = sym (length-map u.ahead item_of) ∙ ap (λ (ys : List Item). length ys) v.ahead in
        record {
          opened = v.opened;
          there = omega (arith, left);
          many = omega (arith, long, many);
          limit = ap (λ (y : View). y.max_len) v.view ∙ h.limit;
          walked = λ y ys too.
              let same : x ∷ xs ≡ y ∷ ys = sym seen ∙ too in
              let both = both_walked (strip s.behind ++ replicate n x) (x ∷ xs) (strip t.behind ++ x ∷ []) (x ∷ xs) (copy_events (length s.behind) n) (Replace (length t.behind) 0 1 ∷ []) s t u w v in
              let events : copy_events (length s.behind) n ++ Replace (length t.behind) 0 1 ∷ [] ≡ copy_events (length s.behind) (n + 1) =
              ap (λ k. copy_events (length s.behind) n ++ Replace k 0 1 ∷ []) many ∙ events_more (length s.behind) n ∙ ap (copy_events (length s.behind)) (sym one) in
              let out : strip t.behind ++ x ∷ [] ≡ strip s.behind ++ replicate (n + 1) y =
              ap (λ os. os ++ x ∷ []) w.behind ∙ append_assoc (strip s.behind) (replicate n x) (x ∷ []) ∙ ap (λ os. strip s.behind ++ os) (replicate-append-replicate n 1 x)
              ∙ ap (λ z. strip s.behind ++ replicate (n + 1) z) (let k : x ≡ y = cc in k) in
              subst (λ os. HasWalked os (y ∷ ys) (copy_events (length s.behind) (n + 1)) s u) out
              (subst (λ es. HasWalked (strip t.behind ++ x ∷ []) (y ∷ ys) es s u) events
              (subst (λ zs. HasWalked (strip t.behind ++ x ∷ []) zs (copy_events (length s.behind) n ++ Replace (length t.behind) 0 1 ∷ []) s u) same both));
        }

-- the glyph itself is output after its copies
pub passed_on_all : (n : ℕ) (x : Item) (xs : List Item) (s t u : Sides) → AreCopied n s t → HasWalked (strip t.behind ++ take 1 (strip t.ahead)) (drop 1 (strip t.ahead)) [] t u → strip s.ahead ≡ x ∷ xs
    → HasWalked (strip s.behind ++ replicate (n + 1) x) xs (copy_events (length s.behind) n) s u
passed_on_all n x xs s t u h step seen =
    let w = h.walked x xs seen in
    let both = both_walked (strip s.behind ++ replicate n x) (x ∷ xs) (strip t.behind ++ take 1 (strip t.ahead)) (drop 1 (strip t.ahead)) (copy_events (length s.behind) n) [] s t u w step in
    let out : strip t.behind ++ take 1 (strip t.ahead) ≡ strip s.behind ++ replicate (n + 1) x =
    ap (λ ys. strip t.behind ++ take 1 ys) w.ahead ∙ ap (λ os. os ++ x ∷ []) w.behind ∙ append_assoc (strip s.behind) (replicate n x) (x ∷ []) ∙ ap (λ os. strip s.behind ++ os) (replicate-append-replicate n 1 x) in
    subst (λ es. HasWalked (strip s.behind ++ replicate (n + 1) x) xs es s u) (append-nil (copy_events (length s.behind) n))
    (subst (λ os. HasWalked os xs (copy_events (length s.behind) n ++ []) s u) out
    (subst (λ rest. HasWalked (strip t.behind ++ take 1 (strip t.ahead)) rest (copy_events (length s.behind) n ++ []) s u) (ap (λ ys. drop 1 ys) w.ahead) both))

pub on_ok : {E P Q : Type 0} (r : Result (Unit {0}) E) → (P → Q) → OnOk r P → OnOk r Q
on_ok (Ok u) f h = f h
on_ok (Err e) f h = tt
