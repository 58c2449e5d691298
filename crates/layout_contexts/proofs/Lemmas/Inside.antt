-- Places and the end of a match, from record to record.
use Rattle.std.proofs.Common.{ℕ, ◌≡◌, ◌≤◌, ◌<◌, ◌+◌, List, length, get_or, sym, subst, arith}
use Rattle.std.proofs.lemmas.Option.{slice_get_within, get_or_from_slice_get}
use Rattle.buffer_core.specs.Sides.{Sides}
use Rattle.layout_tables.specs.declared.context.SequenceLookupRecord.{SequenceLookupRecord}
use Rattle.layout_contexts.specs.Inside.{StaysInside}
use Rattle.layout_contexts.specs.Records.{IsRecordBegun}
use Rattle.layout_contexts.specs.Shifts.{moved_end, indices_after_resize}
use Rattle.layout_contexts.proofs.Lemmas.Rising.{place_rises}
use Rattle.layout_contexts.proofs.Lemmas.Walks.{end_inside, still_inside}

pub stays : (n m : ℕ) (ps : List ℕ) (end : ℕ) → m ≡ n → StaysInside n m ps ps end end
stays n m ps end e =
    let P : ℕ → Type 0 = λ k. StaysInside n k ps ps end end in
    let there : P n = record { within = λ le. le; fewer = omega arith; rising = λ low le r. r; from = λ low le r. le; ends = λ low le r over. over } in
    subst P (sym e) there

pub then_stays : (n m k : ℕ) (ps qs rs : List ℕ) (end at to : ℕ) → StaysInside n m ps qs end at → StaysInside m k qs rs at to → StaysInside n k ps rs end to
then_stays n m k ps qs rs end at to f g =
    let less = f.fewer in
    let fewer = g.fewer in
    record {
      within = λ le. g.within (f.within le);
      fewer = omega (arith, less, fewer);
      rising = λ low le r. g.rising low (f.from low le r) (f.rising low le r);
      from = λ low le r. g.from low (f.from low le r) (f.rising low le r);
      ends = λ low le r over. g.ends low (f.from low le r) (f.rising low le r) (f.ends low le r over);
    }

-- a lookup that keeps what is before its index acted there
pub acted_stays : (record_of : SequenceLookupRecord) (ps rs : List ℕ) (p n m end to : ℕ) (s t : Sides) → IsRecordBegun record_of ps p s t → p ≤ m → rs ≡ indices_after_resize record_of.sequence_index n m ps → to ≡ moved_end p n m end → StaysInside n m ps rs end to
acted_stays r ps rs p n m end to s t b below er et =
    let is : get_or ps r.sequence_index 0 ≡ p = get_or_from_slice_get ps r.sequence_index p 0 b.index in
    let there : r.sequence_index < length ps = slice_get_within ps r.sequence_index p b.index in
    record {
      within = λ le. end_inside p n m end to le below et;
      fewer = omega (arith, et);
      rising = λ low le rising. still_inside r ps rs p low n m s t b rising below er;
      from = λ low le rising. let one = place_rises r.sequence_index low (n + 1) ps there rising in omega (arith, one.0, is, below);
      ends = λ low le rising over. let one = place_rises r.sequence_index low (n + 1) ps there rising in omega (arith, one.0, is, et);
    }
