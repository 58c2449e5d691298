-- The universal and the Myanmar shaper normalize as Unicode does.
use Rattle.std.specs.Prelude.{⊤}
use Rattle.std.proofs.Common.{ℕ, ◌≡◌, ◌&&◌, Bool, true, false, if◌then◌else◌, Option, Some, None, refl, sym}
use lib.Utf8.{scalar}
use Rattle.buffer_unicode_tables.specs.Tables.{pair_of, split_of}
use Rattle.buffer_properties.specs.Properties.{is_mark_character}
use Rattle.script_plan.specs.declared.plan.hb_script_plan_t.{hb_script_plan_t}
use Rattle.script_categories.specs.declared.shaper.hb_ot_script_shaper_t.TheVariants.{ARABIC_SHAPER, HANGUL_SHAPER, HEBREW_SHAPER, INDIC_SHAPER, KHMER_SHAPER, MYANMAR_SHAPER, MYANMAR_ZAWGYI_SHAPER, THAI_SHAPER, UNIVERSAL_SHAPER}
use Rattle.script_dispatch.specs.declared.any_shaper.hb_ot_any_shaper_t.TheVariants as any
use Rattle.script_dispatch.specs.Rules.{rules_of}
use Rattle.script_dispatch.specs.Shapers.{traits_of}
use Rattle.shape_laws.specs.Shapers.{NormalizersAreOfUnicode, NormalizesAsUnicode, ShapersNormalizeAsUnicode}

-- a composition without marks is one of all
unmarked_is_pair : (marked : Bool) (o : Option ℕ) (u : ℕ) → (if marked then None else o) ≡ Some u → o ≡ Some u
unmarked_is_pair true o u e = cc
unmarked_is_pair false o u e = e

universal_is : (plan : hb_script_plan_t ⊤) → NormalizesAsUnicode (traits_of (any.Script UNIVERSAL_SHAPER)) (rules_of (any.Script UNIVERSAL_SHAPER) plan)
universal_is plan = record {
  alone = refl;
  with_marks = refl;
  splits = λ t u. refl;
  composes = λ t a b u e. unmarked_is_pair (is_mark_character a) (pair_of t a b) u e;
  reorders = λ run. refl;
  preprocesses = λ font t settings v. refl;
}

myanmar_is : (plan : hb_script_plan_t ⊤) → NormalizesAsUnicode (traits_of (any.Script MYANMAR_SHAPER)) (rules_of (any.Script MYANMAR_SHAPER) plan)
myanmar_is plan = record {
  alone = refl;
  with_marks = refl;
  splits = λ t u. refl;
  composes = λ t a b u e. e;
  reorders = λ run. refl;
  preprocesses = λ font t settings v. refl;
}

pub shapers_normalize_as_unicode : ShapersNormalizeAsUnicode
shapers_normalize_as_unicode any.Default plan h = cc
shapers_normalize_as_unicode any.Dumber plan h = cc
shapers_normalize_as_unicode (any.Script ARABIC_SHAPER) plan h = cc
shapers_normalize_as_unicode (any.Script HANGUL_SHAPER) plan h = cc
shapers_normalize_as_unicode (any.Script HEBREW_SHAPER) plan h = cc
shapers_normalize_as_unicode (any.Script INDIC_SHAPER) plan h = cc
shapers_normalize_as_unicode (any.Script KHMER_SHAPER) plan h = cc
shapers_normalize_as_unicode (any.Script MYANMAR_SHAPER) plan h = myanmar_is plan
shapers_normalize_as_unicode (any.Script MYANMAR_ZAWGYI_SHAPER) plan h = cc
shapers_normalize_as_unicode (any.Script THAI_SHAPER) plan h = cc
shapers_normalize_as_unicode (any.Script UNIVERSAL_SHAPER) plan h = universal_is plan

-- ---- normalizers

split_guarded : (b : Bool) (o p : Option (ℕ × ℕ)) → o ≡ p → (b ≡ false → p ≡ None) → (if b then o else None) ≡ p
split_guarded true o p e n = e
split_guarded false o p e n = sym (n refl)

pub pair_guarded : (b : Bool) (o : Option ℕ) (u : ℕ) → (if b then o else None) ≡ Some u → o ≡ Some u
pair_guarded true o u e = e
pair_guarded false o u e = cc

pub normalizers_are_of_unicode : NormalizersAreOfUnicode
normalizers_are_of_unicode p n s = record {
  expands = record { alone = n.alone; with_marks = n.with_marks };
  splits = λ u. split_guarded (scalar u) (p.rules.splits p.tables u) (split_of p.tables u) (n.splits p.tables u) (s u);
  composes = λ a b u e. n.composes p.tables a b u (pair_guarded (scalar a && scalar b) (p.rules.composes p.tables a b) u e);
  reorders = n.reorders;
}
