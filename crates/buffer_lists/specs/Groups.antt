-- Groups of neighbours in a list of glyphs.
use Rattle.std.specs.Prelude.{ℕ, suc, ◌≡◌, Bool, if◌then◌else◌, List, [], ◌∷◌}
use Rattle.std.specs.Fn.{Shared, FnReturnsAtPair}
use denote.Ref.{Bor}
use Rattle.buffer_glyphs.specs.declared.info.hb_glyph_info_t.{hb_glyph_info_t}

-- each answer of a test of two glyphs is that of p
abbrev pub Decides : {F : Type 0} → Shared F (Bor hb_glyph_info_t × (Bor hb_glyph_info_t × Unit {0})) Bool → F → (hb_glyph_info_t → hb_glyph_info_t → Bool) → Type 0
Decides calls f p = (g h : hb_glyph_info_t) (b : Bool) → FnReturnsAtPair calls f g h b → b ≡ p g h

-- how many of the glyphs after one are of its group: each is joined to the one before it
abbrev pub joined_count : {X : Type 0} → (X → X → Bool) → X → List X → ℕ
joined_count p x [] = 0
joined_count p x (y ∷ ys) = if p x y then suc (joined_count p y ys) else 0

-- the length of the longest range at the front of a list whose neighbours are joined
abbrev pub group_length : {X : Type 0} → (X → X → Bool) → List X → ℕ
group_length p [] = 0
group_length p (x ∷ xs) = suc (joined_count p x xs)
