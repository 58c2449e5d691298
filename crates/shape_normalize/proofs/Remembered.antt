-- Rows of characters without a decomposition, and what they say of a character.
use Rattle.std.proofs.Common.{ℕ, ◌≡◌, ◌<◌, true, false, List, [], length, get_or, set, replicate, arith, Option, Some, None, refl, sym, ap, ◌∙◌}
use Rattle.std.specs.Prelude.{is_none, is_some}
use Rattle.std.proofs.lemmas.List.Elements.{All-get_or, All-replicate, All-set}
use Rattle.buffer_properties.specs.Normalizer.{Normalizer}
use Rattle.shape_normalize.specs.Undecomposed.{AreUndecomposed, IsUndecomposed}

pub none_known : (c : Normalizer) → AreUndecomposed c []
none_known c = record { each = λ i d lt. absurd (omega (arith, lt)) }

pub nothing_known : (c : Normalizer) (n : ℕ) → AreUndecomposed c (replicate n None)
nothing_known c n = record { each = All-replicate (IsUndecomposed c) n None (λ u e. absurd (let bad = e in cc)) }

pub row_known : (c : Normalizer) (i n u : ℕ) (rows : List (Option ℕ)) (d : Option ℕ) → i < length rows → AreUndecomposed c rows → get_or rows i d ≡ Some n → n ≡ u → true ≡ is_none (c.splits u)
row_known c i n u rows d lt h there e = sym (ap is_none (All-get_or (IsUndecomposed c) rows i d lt h.each u (there ∙ ap Some e)))

pub has_none : {X : Type 0} (o : Option X) → is_some o ≡ false → o ≡ None
has_none None e = refl
has_none (Some x) e = absurd (let bad = e in cc)

pub row_made : (c : Normalizer) (i u : ℕ) (rows : List (Option ℕ)) → AreUndecomposed c rows → is_some (c.splits u) ≡ false → AreUndecomposed c (set rows i (Some u))
row_made c i u rows h e = record { each = All-set (IsUndecomposed c) rows i (Some u) (λ n f. let same : u ≡ n = cc in ap c.splits (sym same) ∙ has_none (c.splits u) e) h.each }
