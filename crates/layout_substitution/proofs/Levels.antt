-- Lookups nested in others, level by level.
use Rattle.std.proofs.Common.{ℕ, zero, suc, ◌≡◌, ◌≢◌, ◌-◌, Ok, false, Bool, List, Option, Some, None, refl, sym, ap, subst, arith}
use Rattle.std.specs.Prelude.{Result}
use Rattle.buffer_glyphs.specs.declared.cause.ShapeCause.{ShapeCause}
use Rattle.buffer_core.specs.Sides.{Sides}
use Rattle.layout_face.specs.Lookups.{props_of}
use Rattle.layout_face.specs.declared.substitution.SubstLookup.{SubstLookup}
use Rattle.layout_match.specs.Applied.{ApplyContext}
use Rattle.buffer_stages.specs.Actions.{Action}
use Rattle.buffer_stages.specs.Performing.{cut_with, Performs}
use Rattle.buffer_stages.proofs.Lemmas.Performed.{passes_nothing}
use Rattle.layout_substitution.specs.Lookups.{first_subtable, nested_actions, nested_act, nested_lookup}

pub no_depth : (table : List SubstLookup) (depth : ℕ) (a : ApplyContext) → depth ≡ 0 → nested_actions table depth a ≡ None
unfolding nested_actions
no_depth table zero a e = refl
no_depth table (suc depth) a e = absurd (omega (arith, e))

pub some_depth : (table : List SubstLookup) (depth : ℕ) (a : ApplyContext) → depth ≢ 0 → nested_actions table depth a ≡ Some (nested_act table (depth - 1) a)
unfolding nested_actions
some_depth table zero a n = absurd (n refl)
some_depth table (suc depth) a n = let e : suc depth - 1 ≡ depth = omega arith in rw e refl

pub no_lookup : (below : ApplyContext → Option (ℕ → Action)) (o : Option SubstLookup) (a : ApplyContext) (r : ℕ) (s : Sides) → None ≡ o → Performs (nested_lookup below o a (cut_with r s)) (Ok false) r r s s
no_lookup below o a r s e = passes_nothing r s (nested_lookup below o a (cut_with r s)) (ap (λ q. nested_lookup below q a (cut_with r s)) (sym e))

-- a lookup is applied with its own flag
pub lookup_there : (below : ApplyContext → Option (ℕ → Action)) (o : Option SubstLookup) (lookup : SubstLookup) (a : ApplyContext) (p r after : ℕ) (y : Result Bool ShapeCause) (s new : Sides) → Some lookup ≡ o → p ≡ props_of lookup.flags lookup.mark_filtering_set
    → Performs (first_subtable (below (record a { props = p })) (record a { props = p }) lookup.subtables (cut_with r s)) y r after s new → Performs (nested_lookup below o a (cut_with r s)) y r after s new
lookup_there below o lookup a p r after y s new e flag d =
    let P : ℕ → Type 0 = λ q. Performs (first_subtable (below (record a { props = q })) (record a { props = q }) lookup.subtables (cut_with r s)) y r after s new in
    let Q : Option SubstLookup → Type 0 = λ q. Performs (nested_lookup below q a (cut_with r s)) y r after s new in
    subst Q e (subst P flag d)
