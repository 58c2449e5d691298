-- Texts that are put into a buffer.
use Rattle.std.proofs.Common.{ℕ, ◌≡◌, ◌≢◌, List, [], refl, sym, subst, arith, ap, ap₂, ◌∙◌}
use Rattle.std.specs.Prelude.{Option, Some, reverse, take}
use Rattle.std.specs.List.{All}
use Rattle.buffer_common.specs.declared.language.Language.{Language}
use Rattle.buffer_core.specs.Sides.{Sides}
use Rattle.buffer_wrappers.specs.Wrappers.{IsCharacter, IsText}
use Rattle.c_text.specs.declared.types.kus_text_t.{kus_text_t}
use Rattle.c_characters.specs.Characters.{encoding_around, scalars_of}
use Rattle.c_characters.specs.declared.characters.Encoding.{Encoding}
use Rattle.shell_readers.specs.declared.fault.RunFault.{RunFault}
use Rattle.shell_readers.specs.declared.fault.RunFault.TheVariants.{OutOfMemory}
use Rattle.c_text.specs.Texts.{IsTextIn, buffer_between, fault_in, set_buffer}

no_characters : All IsCharacter []
no_characters k d lt = absurd (omega (arith, lt))

-- the settings of a text, without characters, are those of a text
pub between_is_text : (t : kus_text_t) (before after : List ℕ) (l : Option Language) (s : Sides) → s ≡ buffer_between t before after l → IsText s
between_is_text t before after l s is = subst IsText (sym is) (record { closed = refl; unrefused = refl; characters = no_characters })

-- the characters around a text in an encoding are those that strings have
pub between_encoded : (t : kus_text_t) (encoding : Encoding) (l : Option Language) (s : Sides) (before after : List ℕ)
    → s ≡ buffer_between t (take 5 (reverse before)) (take 5 after) l
    → take 5 (reverse before) ≡ take 5 (reverse (scalars_of (encoding_around encoding) t.before.now))
    → take 5 after ≡ take 5 (scalars_of (encoding_around encoding) t.after.now) → s ≡ set_buffer (Some encoding) t l
between_encoded t encoding l s before after is first last = is ∙ ap₂ (λ b a. buffer_between t b a l) first last

-- the encoding that a text's flags name is the one in which it was put
pub text_in_encoding : (t : kus_text_t) (s : Sides) (e f : Option Encoding) → e ≡ f → IsTextIn f t s → IsTextIn e t s
text_in_encoding t s e f same is =
    let P : Option Encoding → Type 0 = λ x. IsTextIn x t s in
    subst P (sym same) is

pub fault_in_encoding : (t : kus_text_t) (fault : RunFault) (e f : Option Encoding) → e ≡ f → (fault ≢ OutOfMemory → fault_in f t ≡ Some fault) → fault ≢ OutOfMemory → fault_in e t ≡ Some fault
fault_in_encoding t fault e f same is memory = ap (λ x. fault_in x t) same ∙ is memory
