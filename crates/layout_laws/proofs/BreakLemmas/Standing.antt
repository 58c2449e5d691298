-- The fragments of a text as they stand on its line, for a reading from either end of it.
use Rattle.std.proofs.Common.{ℕ, ◌≡◌, ◌⊎◌, inl, inr, Bool, true, false, not, List, length, map, arith, Ok, refl, sym, subst, ◌∙◌}
use Rattle.buffer_glyphs.specs.declared.level.BufferClusterLevel.{BufferClusterLevel}
use Rattle.buffer_glyphs.specs.Items.{Position}
use Rattle.buffer_glyphs.specs.Origins.{Origin}
use Rattle.buffer_glyphs.specs.Events.{Event}
use Rattle.buffer_parts.specs.Stages.{KeepsParts}
use Rattle.buffer_parts.specs.Orderly.{IsOrderly}
use Rattle.buffer_core.specs.Readings.{View, Read, Stage, BufferState, state_after}
use Rattle.buffer_parts.specs.Breaks.Unsafe.{IsUnsafeAt, HaveSafeBreaks}
use Rattle.buffer_parts.specs.Breaks.Lossless.{AreLossless}
use Rattle.buffer_parts.specs.Breaks.Concat.{SameButConcat, without_concats}
use Rattle.buffer_parts.specs.Breaks.Fragments.{with_ligature_renamed, AreNamed, as_they_stand, AreFragments}
use Rattle.buffer_parts.specs.Breaks.Divisible.{IsBreakable, IsSpared, LosesNoFlag}
use Rattle.buffer_parts.specs.Breaks.Beside.{events_as_they_stand, IsReadAlone, IsReadBeside, ReadsBeside}
use Rattle.buffer_parts.proofs.BreakLemmas.Concat.{same_length}
use Rattle.buffer_parts.proofs.BreakLemmas.Concats.{orderly_without, lossless_without}
use Rattle.buffer_parts.proofs.BreakLemmas.Division.{orderly_at, lossless_at}
use Rattle.buffer_parts.proofs.BreakLemmas.Beside.{safe_alike as safe_line}
use Rattle.layout_laws.specs.Breaks.Local.{Placing}
use Rattle.layout_laws.proofs.BreakLemmas.Passes.{count_without}
use Rattle.layout_laws.proofs.BreakLemmas.Lines.{IsReadOf, IsLine, IsLineRead, turned, turned_cut}

turned_names : (f g : ℕ → ℕ) (v u w : View) → AreNamed f g v u w → AreNamed g f v w u
turned_names f g v u w h = record {
  early = h.late;
  late = h.early;
  apart = λ m n mle nle same. let both = h.apart n m nle mle (sym same) in (both.1, both.0);
  early_given = h.late_given;
  late_given = h.early_given;
}

-- ---- a text that a stage reads

-- the positions that a rule has of a text are those of its fragments, wherever these are
abbrev pub ArePut : (View → List Position) → Type 0
ArePut put = (t : Bool) (v u w : View) → v.positions ≡ as_they_stand t u.positions w.positions → put v ≡ as_they_stand t (put u) (put w)

module _ (backward : Bool) (put : View → List Position) (places : ArePut put) (stage : Stage) (kept : KeepsParts stage) (lossless : LosesNoFlag stage) (c : ℕ) (whole : BufferState) (r : Read) (b : IsBreakable whole) (is : stage whole.view ≡ Ok r) where
  -- the fragment that is read first is the earlier one
  pub earlier_first : (first second : BufferState) → AreFragments backward c whole first second → IsLine backward put c whole first second (r.events whole.level)
  earlier_first first second f =
      let line = as_they_stand backward first.origins second.origins in
      let early = f.early_whole in
      let late = f.late_whole in
      record {
        first_name = f.early_name;
        second_name = f.late_name;
        names = f.names;
        items = f.items;
        positions = places backward whole.view first.view second.view f.positions;
        origins = f.origins;
        breaks = safe_line whole.asks whole.level whole.origins line f.origins b.breaks;
        orderly = orderly_without whole.asks whole.level (r.events whole.level) whole.origins line f.origins (orderly_at stage whole r kept is b);
        lossless = subst (AreLossless (without_concats (r.events whole.level))) (same_length whole.origins line f.origins) (lossless_without (r.events whole.level) (length whole.origins) (lossless_at stage whole r lossless is b));
        cut = inl (f.below, f.above);
        first_some = omega (arith, f.early_some, early.origins);
        second_some = omega (arith, f.late_some, late.origins);
        first_whole = early;
        second_whole = late;
        first_direction = f.early_of.direction;
        second_direction = f.late_of.direction;
      }

-- the fragment that is read first is the other one
pub turned_line : (backward : Bool) (put : View → List Position) (c : ℕ) (text first second : BufferState) (es : List Event) → IsLine (not backward) put c text second first es → IsLine backward put c text first second es
turned_line backward put c text first second es k =
    let same = turned backward first.origins second.origins in
    record {
      first_name = k.second_name;
      second_name = k.first_name;
      names = turned_names k.first_name k.second_name text.view second.view first.view k.names;
      items = k.items ∙ turned backward (map (with_ligature_renamed k.second_name) first.view.items) (map (with_ligature_renamed k.first_name) second.view.items);
      positions = k.positions ∙ turned backward (put first.view) (put second.view);
      origins = subst (SameButConcat text.origins) same k.origins;
      breaks = subst (HaveSafeBreaks text.asks text.level) same k.breaks;
      orderly = subst (IsOrderly text.asks text.level (without_concats es)) same k.orderly;
      lossless = subst (λ (os : List Origin). AreLossless (without_concats es) (length os)) same k.lossless;
      cut = turned_cut c second.origins first.origins k.cut;
      first_some = k.second_some;
      second_some = k.first_some;
      first_whole = k.second_whole;
      second_whole = k.first_whole;
      first_direction = k.second_direction;
      second_direction = k.first_direction;
    }

-- ---- what was read

read_alone : (P : Placing) (level : BufferClusterLevel) (n : ℕ) (r : Read) → IsReadOf P level n r → length r.view.positions ≡ length r.view.items → IsReadAlone level n r
read_alone P level n r k filled = record { bounded = k.bounded; positions = filled; counted = sym (count_without (r.events level) n) ∙ k.counted; some = k.some }

-- a position for each item makes what was read of a line what was read beside
pub line_beside : (backward : Bool) (P : Placing) (level : BufferClusterLevel) (m n : ℕ) (r e l : Read) → IsLineRead backward P level m n r e l → length e.view.positions ≡ length e.view.items → length l.view.positions ≡ length l.view.items → IsReadBeside backward backward level m n r e l
line_beside backward P level m n r e l k first_filled second_filled = record {
  early_name = k.first_name;
  late_name = k.second_name;
  names = k.names;
  items = k.items;
  positions = k.positions;
  events = k.events;
  early_direction = k.first_direction;
  late_direction = k.second_direction;
  early = read_alone P level m e k.first first_filled;
  late = read_alone P level n l k.second second_filled;
}

turned_events : (backward : Bool) (es fs : List Event) (m n : ℕ) → events_as_they_stand backward backward es fs m n ≡ events_as_they_stand backward (not backward) fs es n m
turned_events false es fs m n = refl
turned_events true es fs m n = refl

pub turned_beside : (backward : Bool) (level : BufferClusterLevel) (m n : ℕ) (r e l : Read) → IsReadBeside backward backward level m n r e l → IsReadBeside backward (not backward) level n m r l e
turned_beside backward level m n r e l k = record {
  early_name = k.late_name;
  late_name = k.early_name;
  names = turned_names k.early_name k.late_name r.view e.view l.view k.names;
  items = k.items ∙ sym (turned backward (map (with_ligature_renamed k.early_name) e.view.items) (map (with_ligature_renamed k.late_name) l.view.items));
  positions = k.positions ∙ sym (turned backward e.view.positions l.view.positions);
  events = k.events ∙ turned_events backward (without_concats (e.events level)) (without_concats (l.events level)) m n;
  early_direction = k.late_direction;
  late_direction = k.early_direction;
  early = k.late;
  late = k.early;
}

-- ---- stages

-- a stage reads a line as its fragments, where each is spared
abbrev pub ReadsLines : Bool → (View → List Position) → Stage → Type 0
ReadsLines backward put stage = (c : ℕ) (text first second : BufferState) (r e l : Read) → IsLine backward put c text first second (r.events text.level) → stage text.view ≡ Ok r → stage first.view ≡ Ok e → stage second.view ≡ Ok l
    → IsSpared text.level text.view r → IsSpared text.level first.view e → IsSpared text.level second.view l → IsUnsafeAt c (state_after r text).origins ⊎ IsReadBeside backward backward text.level (length first.origins) (length second.origins) r e l

-- what is spared at a level is so at the same one
pub spared_at : (v : View) (r : Read) (level other : BufferClusterLevel) → other ≡ level → IsSpared other v r → IsSpared level v r
spared_at v r level other e h = subst (λ (x : BufferClusterLevel). IsSpared x v r) e h

module _ (put : View → List Position) (places : ArePut put) (stage : Stage) (kept : KeepsParts stage) (lossless : LosesNoFlag stage) where
  reads_earlier_first : (backward : Bool) → ReadsLines backward put stage → ReadsBeside backward backward stage stage stage
  reads_earlier_first backward reads c whole earlier later r e l b f is_r is_e is_l ar ae al =
      reads c whole earlier later r e l (earlier_first backward put places stage kept lossless c whole r b is_r earlier later f) is_r is_e is_l ar (spared_at earlier.view e whole.level earlier.level f.early_of.level ae) (spared_at later.view l whole.level later.level f.late_of.level al)

  reads_later_first : (backward : Bool) → ReadsLines backward put stage → ReadsBeside backward (not backward) stage stage stage
  reads_later_first backward reads c whole earlier later r e l b f is_r is_e is_l ar ae al =
      let is = turned_line backward put c whole later earlier (r.events whole.level) (earlier_first (not backward) put places stage kept lossless c whole r b is_r earlier later f) in
      elim (reads c whole later earlier r l e is is_r is_l is_e ar (spared_at later.view l whole.level later.level f.late_of.level al) (spared_at earlier.view e whole.level earlier.level f.early_of.level ae)) [
        | inl unsafe ↦ inl unsafe
        | inr read ↦ inr (turned_beside backward whole.level (length later.origins) (length earlier.origins) r l e read)
      ]

  -- a stage that reads lines as their fragments reads texts so
  pub reads_beside : (backward falls : Bool) → ReadsLines backward put stage → ReadsBeside backward falls stage stage stage
  reads_beside false false reads = reads_earlier_first false reads
  reads_beside false true reads = reads_later_first false reads
  reads_beside true false reads = reads_later_first true reads
  reads_beside true true reads = reads_earlier_first true reads
