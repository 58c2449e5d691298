-- Scripts of characters, one at a time.
use Rattle.std.proofs.Common.{◌≡◌, ℕ, Bool, true, false, if◌then◌else◌, List, [], ◌∷◌, ◌++◌, map, refl, ap, ◌∙◌, sym, append_assoc}
use Rattle.std.specs.List.{filter}
use Rattle.buffer_common.specs.declared.script.Script.{Script}
use Rattle.buffer_common.specs.Direction.{is_among}
use Rattle.buffer_unicode.specs.Scripts.{script_of}
use Rattle.layout_face.specs.declared.parts.CharacterRow.{CharacterRow}
use Rattle.font_kern.specs.declared.scripts.BackwardScript.{BackwardScript}
use Rattle.font_kern.specs.declared.scripts.ScriptRow.{ScriptRow}
use Rattle.font_kern.specs.Scripts.{is_in_backward_block, scripts_of, rows_among, script_row}

-- one more element is picked, or isn't
picked : {X Y : Type 0} (f : X → Y) (b : Bool) (x : X) (xs : List X) (done all : List Y) → b ≡ true
    → done ++ map f (if b then x ∷ xs else xs) ≡ all → (done ++ f x ∷ []) ++ map f xs ≡ all
picked f b x xs done all given h = append_assoc done (f x ∷ []) (map f xs) ∙ (ap (λ t. done ++ map f (if t then x ∷ xs else xs)) (sym given) ∙ h)

passed : {X Y : Type 0} (f : X → Y) (b : Bool) (x : X) (xs : List X) (done all : List Y) → b ≡ false
    → done ++ map f (if b then x ∷ xs else xs) ≡ all → done ++ map f xs ≡ all
passed f b x xs done all given h = ap (λ t. done ++ map f (if t then x ∷ xs else xs)) (sym given) ∙ h

-- a character of the blocks
pub of_block : (r : CharacterRow) (rows : List CharacterRow) (done all : List Script) → is_in_backward_block r.character ≡ true
    → done ++ scripts_of (r ∷ rows) ≡ all → (done ++ script_of r.character ∷ []) ++ scripts_of rows ≡ all
of_block r rows done all given h = picked (λ (r : CharacterRow). script_of r.character) (is_in_backward_block r.character) r (filter (λ r. is_in_backward_block r.character) rows) done all given h

-- a character of another block
pub of_no_block : (r : CharacterRow) (rows : List CharacterRow) (done all : List Script) → is_in_backward_block r.character ≡ false
    → done ++ scripts_of (r ∷ rows) ≡ all → done ++ scripts_of rows ≡ all
of_no_block r rows done all given h = passed (λ (r : CharacterRow). script_of r.character) (is_in_backward_block r.character) r (filter (λ r. is_in_backward_block r.character) rows) done all given h

-- a script that is among those of the characters
pub script_met : (scripts : List Script) (b : BackwardScript) (known : List BackwardScript) (done all : List ScriptRow) → is_among scripts b.script ≡ true
    → done ++ rows_among scripts (b ∷ known) ≡ all → (done ++ script_row b.tag ∷ []) ++ rows_among scripts known ≡ all
script_met scripts b known done all given h = picked (λ (b : BackwardScript). script_row b.tag) (is_among scripts b.script) b (filter (λ b. is_among scripts b.script) known) done all given h

-- a script that isn't
pub script_not_met : (scripts : List Script) (b : BackwardScript) (known : List BackwardScript) (done all : List ScriptRow) → is_among scripts b.script ≡ false
    → done ++ rows_among scripts (b ∷ known) ≡ all → done ++ rows_among scripts known ≡ all
script_not_met scripts b known done all given h = passed (λ (b : BackwardScript). script_row b.tag) (is_among scripts b.script) b (filter (λ b. is_among scripts b.script) known) done all given h
