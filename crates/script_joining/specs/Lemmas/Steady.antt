-- Events that leave as many glyphs as there were, and permute none without a merge.
use Rattle.std.proofs.Common.{ℕ, ◌+◌, ◌==◌, true, false, if◌then◌else◌, List, [], ◌∷◌, ◌++◌, Option, Some, None}
use Rattle.script_categories.specs.declared.joining_types.hb_arabic_joining_type_t.TheVariants.{U}
use Rattle.buffer_glyphs.specs.Events.{Event, Concat, StrictBreak, Tatweel}
use Rattle.buffer_parts.specs.Plainly.{AreSteady}
use Rattle.script_joining.specs.declared.flags.Letter.{Letter}
use Rattle.script_joining.specs.Types.{JoiningType}
use Rattle.script_joining.specs.Forms.{letter_form}
use Rattle.script_joining.specs.Joining.{depends_on, events_after, events_at, form_events, is_letter, letter_after, nearest, nearest_past, neighbour_events, neighbours_events, types_of_characters, types_of_items}
use Rattle.script_joining.specs.Laws.{JoiningIsSteady}

form_steady : (before : JoiningType) (from : ℕ) (t : JoiningType) (at : ℕ) (es : List Event) → AreSteady es → AreSteady (form_events before from t at ++ es)
form_steady before from t at es h = elim (depends_on before t) as (λ b. AreSteady ((if b then StrictBreak from (at + 1) ∷ [] else []) ++ es)) [ true ↦ h | false ↦ h ]

neighbours_steady : (p : Letter) (t : JoiningType) (at : ℕ) (es : List Event) → AreSteady es → AreSteady (neighbours_events p t at ++ es)
neighbours_steady p t at es h =
    elim (letter_form p.before p.joining t == letter_form p.before p.joining U) as (λ b. AreSteady ((if b then Concat p.at (at + 1) ∷ form_events p.joining p.at t at else Tatweel p.at (at + 1) ∷ []) ++ es)) [ true ↦ form_steady p.joining p.at t at es h | false ↦ h ]

after_steady : (before : JoiningType) (last : Option Letter) (t : JoiningType) (at : ℕ) (es : List Event) → AreSteady es → AreSteady (events_after before last t at ++ es)
after_steady before None t at es h = form_steady before 0 t at es h
after_steady before (Some p) t at es h = neighbours_steady p t at es h

at_steady : (before : JoiningType) (last : Option Letter) (t : JoiningType) (at : ℕ) (es : List Event) → AreSteady es → AreSteady (events_at before last t at ++ es)
at_steady before last t at es h = elim (is_letter t) as (λ b. AreSteady ((if b then events_after before last t at else []) ++ es)) [ true ↦ after_steady before last t at es h | false ↦ h ]

all_steady : (before : JoiningType) (last : Option Letter) (at : ℕ) (ts : List JoiningType) → AreSteady (neighbour_events before last at ts)
all_steady before last at [] = tt
all_steady before last at (t ∷ ts) =
    at_steady before last t at (neighbour_events (nearest_past before t) (letter_after before last t at) (at + 1) ts) (all_steady (nearest_past before t) (letter_after before last t at) (at + 1) ts)

pub joining_is_steady : JoiningIsSteady
joining_is_steady t mongolian masks pre post v level = all_steady (nearest (types_of_characters t pre)) None 0 (types_of_items t v.items)
