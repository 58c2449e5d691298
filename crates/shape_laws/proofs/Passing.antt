-- Views on the way through stages in order.
use Rattle.std.proofs.Common.{◌≡◌, List, [], ◌∷◌, Ok, Err, refl, sym, ap, ◌∙◌}
use Rattle.buffer_core.specs.Readings.{Read, Reading, Stage, View, always, and_then, then_read, then_reading, with_events}
use Rattle.buffer_parts.specs.Lemmas.Stages.{both_read}
use Rattle.shape_pipeline.specs.Chains.{in_order}

-- a stage does not refuse a view, and leads to another
pub record Reaches (stage : Stage) (v w : View) : Type 0 where
  pub read : Read
  pub is : stage v ≡ Ok read
  pub view : read.view ≡ w

pub reaches_read : (stage : Stage) (v : View) (r : Read) → stage v ≡ Ok r → Reaches stage v r.view
reaches_read stage v r e = record { read = r; is = e; view = refl }

pub reaches_as : (s t : Stage) (v w : View) → t v ≡ s v → Reaches s v w → Reaches t v w
reaches_as s t v w e k = record { read = k.read; is = e ∙ k.is; view = k.view }

pub always_reaches : (f : View → Read) (v : View) → Reaches (always f) v (f v).view
always_reaches f v = record { read = f v; is = refl; view = refl }

abbrev view_or : View → Reading → View
view_or v (Ok x) = x.view
view_or v (Err c) = v

pub read_is : (r s : Read) → ◌≡◌ {A = Reading} (Ok r) (Ok s) → r.view ≡ s.view
read_is r s e = ap (λ (x : Reading). view_or r.view x) e

-- a stage leads to one view
pub reached_is : (stage : Stage) (v w : View) (r : Read) → Reaches stage v w → stage v ≡ Ok r → r.view ≡ w
reached_is stage v w r k e = sym (read_is k.read r (sym k.is ∙ e)) ∙ k.view

-- what a stage that never refuses leads to
pub always_led : (f : View → Read) (v w : View) → Reaches (always f) v w → (f v).view ≡ w
always_led f v w k = read_is (f v) k.read k.is ∙ k.view

-- a stage after another
pub two_reach : (s t : Stage) (u v w : View) → Reaches s u v → Reaches t v w → Reaches (λ x. and_then (s x) t) u w
two_reach s t u v w j k = record {
  read = then_read j.read k.read;
  is = ap (λ (x : Reading). and_then x t) j.is ∙ (ap (λ (x : View). then_reading j.read (t x)) j.view ∙ ap (then_reading j.read) k.is);
  view = k.view;
}

-- views from one to another, each by the next of some stages
abbrev pub Passes : List Stage → View → View → Type 0
Passes [] v w = v ≡ w
Passes (stage ∷ stages) v w = (u : View) × Reaches stage v u × Passes stages u w

pub passes_in_order : (stages : List Stage) (v w : View) → Passes stages v w → Reaches (in_order stages) v w
passes_in_order [] v w p = record { read = with_events [] v; is = refl; view = p }
passes_in_order (stage ∷ stages) v w p = let (u, first, rest) = p in two_reach stage (in_order stages) v u w first (passes_in_order stages u w rest)

pub in_order_passes : (stages : List Stage) (v w : View) → Reaches (in_order stages) v w → Passes stages v w
in_order_passes [] v w k = read_is (with_events [] v) k.read k.is ∙ k.view
in_order_passes (stage ∷ stages) v w k =
    let two = both_read (stage v) (in_order stages) k.read k.is in
    let ends : two.second.view ≡ w = ap (λ (r : Read). r.view) two.both ∙ k.view in
    (two.first.view, record { read = two.first; is = two.first_is; view = refl }, in_order_passes stages two.first.view w (record { read = two.second; is = two.second_is; view = ends }))
