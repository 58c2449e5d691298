-- Rules tried one after another.
use Rattle.std.proofs.Common.{ℕ, ◌≡◌, ◌≤◌, ◌<◌, ◌+◌, true, false, Bool, List, [], ◌∷◌, drop, length, refl, sym, ap, subst, ◌∙◌, get_or, arith}
use Rattle.std.proofs.lemmas.List.{drop_more, drop_all}
use Rattle.buffer_core.specs.Sides.{Sides, items_of}
use Rattle.buffer_stages.specs.Actions.{Outcome, Passes, Acts, Refuses, Action, later, first_rule}
use Rattle.buffer_stages.specs.Buffers.{cut_of, are_glyphs, IsStill, Does}
use Rattle.buffer_stages.proofs.Lemmas.Frames.{still_open, still_limit, same_lengths, same_numbers}
use Rattle.buffer_stages.proofs.Lemmas.Does.{does_nothing, does_later}

-- some rules passed; whatever the others do from here, all do from the start
pub record IsTried {R : Type 0} (act : R → Action) (all left : List R) (start now : Sides) : Type 0 where
  pub cut_is : cut_of now ≡ cut_of start
  pub still : IsStill start now
  pub behind : length now.behind ≡ length start.behind
  pub ahead : length now.ahead ≡ length start.ahead
  pub does : (acted : Bool) (final : Sides) → Does (first_rule act left (cut_of now)) acted now final → Does (first_rule act all (cut_of start)) acted start final
