-- Values that were read, and the room that they leave.
use Rattle.std.proofs.Common.{◌≡◌, ℕ, ◌+◌, ◌-◌, ◌≤◌, Bool, true, false, if◌then◌else◌, nat_le, Result, Ok, Err, refl, arith}
use Rattle.std.proofs.lemmas.Bool.Decides.{nat_tests}
use Rattle.std.specs.Result.{IfOk}
use Rattle.font_bytes.specs.declared.fault.TableFault.{TableFault}
use Rattle.font_bytes.specs.declared.fault.TableFault.TheVariants.{TooLarge}
use Rattle.font_bytes.specs.Results.{and_then}
use Rattle.font_bytes.specs.Room.{room_after}

-- a value, weighed, and the room that it leaves fit a room
abbrev pub Fitting : {A : Type 0} → (A → ℕ) → ℕ → Result (A × ℕ) TableFault → Type 0
Fitting count room read = IfOk read (λ r. count r.0 + r.1 ≤ room)

-- what follows a value that has a property
pub then_if : {A B E : Type 0} (P : A → Type 0) (Q : B → Type 0) (x : Result A E) (next : A → Result B E)
    → IfOk x P → ((a : A) → P a → IfOk (next a) Q) → IfOk (and_then x next) Q
then_if P Q (Ok a) next h k = k a h
then_if P Q (Err e) next h k = tt

-- what follows any value
pub then_any : {A B E : Type 0} (Q : B → Type 0) (x : Result A E) (next : A → Result B E) → ((a : A) → IfOk (next a) Q) → IfOk (and_then x next) Q
then_any Q (Ok a) next k = k a
then_any Q (Err e) next k = tt

-- one of two values
pub if_either : {B E : Type 0} (Q : B → Type 0) (t : Bool) (x y : Result B E) → IfOk x Q → IfOk y Q → IfOk (if t then x else y) Q
if_either Q true x y h k = h
if_either Q false x y h k = k

-- a weaker property
pub weaker : {A E : Type 0} (P Q : A → Type 0) (x : Result A E) → IfOk x P → ((a : A) → P a → Q a) → IfOk x Q
weaker P Q (Ok a) h k = k a h
weaker P Q (Err e) h k = tt

abbrev answer : ℕ → ℕ → Bool → Result ℕ TableFault
answer room rows t = if t then Ok (room - rows) else Err TooLarge

took : (room rows : ℕ) (t : Bool) → nat_le rows room ≡ t → IfOk (answer room rows t) (λ left. rows + left ≡ room)
took room rows true h = grind (arith, nat_tests)
took room rows false h = tt

-- rows and the room after them are the room before
pub room_taken : (room rows : ℕ) → IfOk (room_after room rows) (λ left. rows + left ≡ room)
room_taken room rows = took room rows (nat_le rows room) refl
