-- The tests of a sequence by their indices.
use Rattle.std.proofs.Common.{ℕ, ◌≡◌, zero, suc, Bool, false, List, [], ◌∷◌, map, Some, None, slice_get, refl}
use Rattle.buffer_glyphs.specs.Items.{Item}
use Rattle.layout_match.specs.Sequences.{test_at}

pub test_there : {A : Type 0} (f : A → Item → Bool) (bs : List A) (k : ℕ) (a : A) (x : Item) → slice_get bs k ≡ Some a → test_at (map f bs) k x ≡ f a x
test_there f [] zero a x at = cc
test_there f [] (suc k) a x at = cc
test_there f (b ∷ bs) zero a x at = cc
test_there f (b ∷ bs) (suc k) a x at = test_there f bs k a x at

pub test_past : {A : Type 0} (f : A → Item → Bool) (bs : List A) (k : ℕ) (x : Item) → slice_get bs k ≡ None → test_at (map f bs) k x ≡ false
test_past f [] zero x at = refl
test_past f [] (suc k) x at = refl
test_past f (b ∷ bs) zero x at = cc
test_past f (b ∷ bs) (suc k) x at = test_past f bs k x at
