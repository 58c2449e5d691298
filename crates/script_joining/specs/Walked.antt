-- A text whose letters get their forms in one walk, each as soon as the next letter is known.
use Rattle.std.specs.Prelude.{ℕ, zero, suc, ◌≡◌, ◌+◌, if◌then◌else◌, List, [], ◌∷◌, ◌++◌, Option, None, Some, take, drop}
use Rattle.script_categories.specs.declared.arabic_action_t.TheConstants as action
use Rattle.buffer_unicode_tables.specs.Tables.{Tables}
use Rattle.buffer_glyphs.specs.declared.info.hb_glyph_info_t.{hb_glyph_info_t}
use Rattle.buffer_glyphs.specs.Items.{Item}
use Rattle.buffer_glyphs.specs.Events.{Event}
use Rattle.buffer_core.specs.Sides.{Sides, origins_by, origins_of, settings_of, view_of}
use Rattle.buffer_stages.specs.Ready.{IsReady}
use Rattle.script_joining.specs.declared.flags.Letter.{Letter}
use Rattle.script_joining.specs.Types.{JoiningType, type_of_item}
use Rattle.script_joining.specs.Forms.{letter_form}
use Rattle.script_joining.specs.Joining.{is_letter, with_form}
use Rattle.script_joining.specs.Glyphs.{glyph_formed, glyph_joined}

-- an element of a list changed
abbrev pub with_one_changed : {X : Type 0} → (X → X) → ℕ → List X → List X
with_one_changed f i [] = []
with_one_changed f zero (x ∷ xs) = f x ∷ xs
with_one_changed f (suc i) (x ∷ xs) = x ∷ with_one_changed f i xs

-- an item of a text with its form and the form's mask
abbrev pub with_form_at : List ℕ → ℕ → ℕ → List Item → List Item
with_form_at masks form at xs = with_one_changed (λ x. with_form masks x form) at xs

-- a list of glyphs of which one has a form and the form's mask
abbrev pub glyphs_with_form_at : List ℕ → ℕ → ℕ → List hb_glyph_info_t → List hb_glyph_info_t
glyphs_with_form_at masks form at gs = with_one_changed (λ (g : hb_glyph_info_t). glyph_joined masks (glyph_formed form g)) at gs

-- a text whose last letter so far has its form before a letter of the type
abbrev pub with_last_formed : List ℕ → Option Letter → JoiningType → List Item → List Item
with_last_formed masks None next xs = xs
with_last_formed masks (Some p) next xs = with_form_at masks (letter_form p.before p.joining next) p.at xs

-- a text after one more character: a transparent one has no form, and a letter gives the letter before it its form
abbrev pub text_past : List ℕ → Option Letter → JoiningType → ℕ → List Item → List Item
text_past masks last t at xs = if is_letter t then with_last_formed masks last t xs else with_form_at masks action.NONE at xs

-- other items, and the clusters and flags after some events; all else stays
pub record TurnsTo (items : List Item) (events : List Event) (old new : Sides) : Type 0 where
  pub view : view_of new ≡ record (view_of old) { items = items }
  pub origins : origins_of new ≡ origins_by events old
  pub settings : settings_of new ≡ settings_of old
  pub ready : IsReady new
