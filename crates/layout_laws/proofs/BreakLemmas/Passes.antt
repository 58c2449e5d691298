-- A local rule that is tried at each index of a text, from the left.
use Rattle.std.proofs.Common.{ℕ, ◌≡◌, ◌≤◌, ◌+◌, Bool, true, false, nat_le, if◌then◌else◌, List, [], ◌∷◌, ◌++◌, Ok, Err, length, arith, refl, ap, sym, subst, ◌∙◌}
use Rattle.std.proofs.lemmas.List.{append-nil, length-replicate, replicate-append-replicate}
use Rattle.buffer_glyphs.specs.declared.level.BufferClusterLevel.{BufferClusterLevel}
use Rattle.buffer_glyphs.specs.declared.cause.ShapeCause.TheVariants.{TooLong}
use Rattle.buffer_glyphs.specs.Items.{Item, zero_position}
use Rattle.buffer_glyphs.specs.LigatureWords.{lig_id}
use Rattle.buffer_glyphs.specs.Events.{Event, Merge, MergeGrapheme, Replace, Circle, Delete, Move, Arrange, Sort, Reverse, Break, Concat, Tatweel, StrictBreak, Spread, Reset}
use Rattle.buffer_parts.specs.Counts.{count_after, count_after_event}
use Rattle.buffer_core.specs.Readings.{View, Read, Reading, then_read, then_reading, and_then}
use Rattle.buffer_core.specs.Sides.{zero_positions}
use Rattle.buffer_stages.specs.Actions.{uncut, Action}
use Rattle.buffer_parts.specs.Breaks.Concat.{without_concats}
use Rattle.buffer_parts.specs.Breaks.Divisible.{merges, IsSpared}
use Rattle.buffer_parts.specs.Breaks.Fragments.{IsNaming, AreGiven}
use Rattle.buffer_parts.specs.Counting.{is_left}
use Rattle.layout_match.specs.Trying.{trials, with_zero_positions, whole_list, forward_pass}
use Rattle.layout_laws.specs.Breaks.Frames.{Inside, named_items, AreForeign}
use Rattle.layout_laws.proofs.BreakLemmas.PassWalks.{IsEnough}
use Rattle.layout_laws.proofs.BreakLemmas.Words.{number_named}

-- ---- what is read of a pass

-- the reading of a pass over a view: that of the walk, at zero positions
pub record IsPass (act : Action) (v : View) (r : Read) : Type 0 where
  pub walk : Read
  pub walk_is : trials act v (length v.items) (uncut v) ≡ Ok walk
  pub read : then_read walk (with_zero_positions walk.view) ≡ r

whole_read : (w : View) (walk : Read) (r : Read) → then_reading walk (whole_list w) ≡ Ok r → then_read walk (with_zero_positions w) ≡ r
whole_read w walk r e = by_test (nat_le (length w.items) w.max_len) e
  where
    by_test : (t : Bool) → then_reading walk (if t then Ok (with_zero_positions w) else Err TooLong) ≡ Ok r → then_read walk (with_zero_positions w) ≡ r
    by_test true f = cc
    by_test false f = cc

pub pass_read : (act : Action) (v : View) (r : Read) → forward_pass act v ≡ Ok r → IsPass act v r
pass_read act v r e = by_walk (trials act v (length v.items) (uncut v)) refl e
  where
    by_walk : (a : Reading) → trials act v (length v.items) (uncut v) ≡ a → and_then a whole_list ≡ Ok r → IsPass act v r
    by_walk (Ok walk) f g = record { walk = walk; walk_is = f; read = whole_read walk.view walk r g }
    by_walk (Err x) f g = cc

-- a pass has the events of its walk
pub pass_events : (act : Action) (v : View) (r : Read) (p : IsPass act v r) (level : BufferClusterLevel) → p.walk.events level ≡ r.events level
pass_events act v r p level = sym (append-nil (p.walk.events level)) ∙ ap (λ (x : Read). x.events level) p.read

pub enough_spared : (act : Action) (v : View) (r : Read) (p : IsPass act v r) (level : BufferClusterLevel) → IsSpared level v r → IsEnough level v.lig_id p.walk
enough_spared act v r p level h = record {
  budget = ap (λ (x : Read). is_left x.view.max_ops) p.read ∙ h.budget;
  numbers = subst (λ (es : List Event). v.lig_id + merges (without_concats es) ≤ 7) (sym (pass_events act v r p level)) h.numbers;
}

-- ---- positions

pub zero_both : (m n : ℕ) → zero_positions (m + n) ≡ zero_positions m ++ zero_positions n
zero_both m n = sym (replicate-append-replicate m n zero_position)

pub zero_long : (n : ℕ) → length (zero_positions n) ≡ n
zero_long n = length-replicate n zero_position

-- ---- counts

pub count_without : (es : List Event) (n : ℕ) → count_after (without_concats es) n ≡ count_after es n
count_without [] n = refl
count_without (Concat from to ∷ es) n = count_without es n
count_without (Merge how from to ∷ es) n = count_without es n
count_without (MergeGrapheme from to ∷ es) n = count_without es n
count_without (Replace at taken given ∷ es) n = count_without es (count_after_event n (Replace at taken given))
count_without (Circle after beside like ∷ es) n = count_without es (count_after_event n (Circle after beside like))
count_without (Delete at ∷ es) n = count_without es (count_after_event n (Delete at))
count_without (Move how from order ∷ es) n = count_without es n
count_without (Arrange from order ∷ es) n = count_without es n
count_without (Sort from order ∷ es) n = count_without es n
count_without (Reverse ∷ es) n = count_without es n
count_without (Break from to ∷ es) n = count_without es n
count_without (Tatweel from to ∷ es) n = count_without es n
count_without (StrictBreak from to ∷ es) n = count_without es n
count_without (Spread ∷ es) n = count_without es n
count_without (Reset ∷ es) n = count_without es n

-- ---- ligature numbers of two fragments

-- items of a fragment have numbers of the text
pub named_given : (s : Inside) (last : ℕ) (xs : List Item) → IsNaming s.name last s.lig_id → AreGiven last xs → AreGiven s.lig_id (named_items s xs)
named_given s last [] h k = tt
named_given s last (x ∷ xs) h k = (subst (λ (n : ℕ). n ≤ s.lig_id) (sym (number_named s.name x)) (h.within (lig_id x) k.0), named_given s last xs h k.1)

-- and no number of a fragment that is apart from it
pub named_foreign : (s : Inside) (last : ℕ) (name : ℕ → ℕ) (other : ℕ) (xs : List Item) → AreGiven last xs → ((m n : ℕ) → m ≤ last → n ≤ other → s.name m ≡ name n → n ≡ 0) → AreForeign name other (named_items s xs)
named_foreign s last name other [] k apart = tt
named_foreign s last name other (x ∷ xs) k apart = (λ n le e. apart (lig_id x) n k.0 le (sym (number_named s.name x) ∙ sym e), named_foreign s last name other xs k.1 apart)

-- names for more numbers
pub naming_wider : (name : ℕ → ℕ) (last given more : ℕ) → given ≤ more → IsNaming name last given → IsNaming name last more
naming_wider name last given more le h = record { none = h.none; apart = h.apart; within = λ n below. let w = h.within n below in omega (arith, w, le) }
