-- The steps of a supported expansion.
use Rattle.std.proofs.Common.{ℕ, zero, suc, ◌≡◌, ◌≢◌, ◌-◌, Bool, refl, arith}
use Rattle.buffer_unicode_tables.specs.Expansion.{Splits}
use Rattle.buffer_properties.specs.declared.normal_mode.Reach.{Reach}
use Rattle.buffer_properties.specs.SupportedExpansion.{alone, preferred_expansion, by_supported, supported_expansion}

pub supported_zero : (reach : Reach) (has : ℕ → Bool) (splits : Splits) (depth u : ℕ) → depth ≡ 0 → supported_expansion reach has splits depth u ≡ alone has u
unfolding supported_expansion
supported_zero reach has splits zero u e = refl
supported_zero reach has splits (suc depth) u e = absurd (omega (arith, e))

pub supported_step : (reach : Reach) (has : ℕ → Bool) (splits : Splits) (depth u : ℕ) → depth ≢ 0
    → supported_expansion reach has splits depth u ≡ preferred_expansion reach (alone has u) (by_supported has (supported_expansion reach has splits (depth - 1)) (splits u))
unfolding supported_expansion
supported_step reach has splits zero u n = absurd (n refl)
supported_step reach has splits (suc depth) u n = let e : suc depth - 1 ≡ depth = omega arith in rw e refl
