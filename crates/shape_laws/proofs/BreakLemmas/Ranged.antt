-- Masks of ranges of a text that is broken into two, by the clusters that each has.
use Rattle.std.proofs.Common.{ℕ, suc, ◌≡◌, ◌≤◌, Bool, true, false, if◌then◌else◌, List, [], ◌∷◌, ◌++◌, length, map, arith, refl, sym, ap, ◌∙◌}
use Rattle.std.proofs.lemmas.List.{length-map, map-append}
use Rattle.buffer_tags.specs.declared.feature.Feature.{Feature}
use Rattle.buffer_tags.specs.Feature.{is_global}
use Rattle.buffer_glyphs.specs.Items.{Item}
use Rattle.buffer_glyphs.specs.LigatureWords.{lig_id}
use Rattle.buffer_glyphs.specs.Origins.{Origin, numbers}
use Rattle.buffer_lists.specs.Masks.{is_within, item_set, items_set}
use Rattle.buffer_core.specs.Readings.{BufferState, state_after}
use Rattle.layout_map.specs.Compiled.{OtMapValue}
use Rattle.buffer_parts.specs.Breaks.Fragments.{AreFragments, AreGiven, IsWhole, as_they_stand, with_ligature_renamed}
use Rattle.buffer_parts.proofs.BreakLemmas.Concat.{same_numbers}
use Rattle.shape_text.specs.Ranges.{bits_of, shifted_value, with_all_ranges, with_range, with_ranges}

-- ---- one feature

set_both : (value under start end : ℕ) (ns ms : List ℕ) (xs ys : List Item) → length ns ≡ length xs → items_set value under start end (ns ++ ms) (xs ++ ys) ≡ items_set value under start end ns xs ++ items_set value under start end ms ys
set_both value under start end [] ms [] ys e = refl
set_both value under start end [] ms (x ∷ xs) ys e = absurd (omega (arith, e))
set_both value under start end (n ∷ ns) ms [] ys e = absurd (omega (arith, e))
set_both value under start end (n ∷ ns) ms (x ∷ xs) ys e = ap (λ zs. (if is_within start end n then item_set value under x else x) ∷ zs) (set_both value under start end ns ms xs ys (omega (arith, e)))

set_renamed : (value under start end : ℕ) (name : ℕ → ℕ) (ns : List ℕ) (xs : List Item) → items_set value under start end ns (map (with_ligature_renamed name) xs) ≡ map (with_ligature_renamed name) (items_set value under start end ns xs)
set_renamed value under start end name [] xs = refl
set_renamed value under start end name (n ∷ ns) [] = refl
set_renamed value under start end name (n ∷ ns) (x ∷ xs) = rw (by_test (is_within start end n), set_renamed value under start end name ns xs) refl
  where
    by_test : (b : Bool) → (if b then item_set value under (with_ligature_renamed name x) else with_ligature_renamed name x) ≡ with_ligature_renamed name (if b then item_set value under x else x)
    by_test true = refl
    by_test false = refl

set_given : (value under start end last : ℕ) (ns : List ℕ) (xs : List Item) → AreGiven last xs → AreGiven last (items_set value under start end ns xs)
set_given value under start end last [] xs h = h
set_given value under start end last (n ∷ ns) [] h = tt
set_given value under start end last (n ∷ ns) (x ∷ xs) h = (by_test (is_within start end n), set_given value under start end last ns xs h.1)
  where
    by_test : (b : Bool) → lig_id (if b then item_set value under x else x) ≤ last
    by_test true = h.0
    by_test false = h.0

set_many : (value under start end : ℕ) (ns : List ℕ) (xs : List Item) → length (items_set value under start end ns xs) ≡ length xs
set_many value under start end [] xs = refl
set_many value under start end (n ∷ ns) [] = refl
set_many value under start end (n ∷ ns) (x ∷ xs) = ap suc (set_many value under start end ns xs)

-- ---- all features

-- what is known of a change of items by clusters: it changes two texts, one after the other, each by itself
record AreSetApart (change : List ℕ → List Item → List Item) : Type 0 where
  both : (ns ms : List ℕ) (xs ys : List Item) → length ns ≡ length xs → change (ns ++ ms) (xs ++ ys) ≡ change ns xs ++ change ms ys
  renamed : (name : ℕ → ℕ) (ns : List ℕ) (xs : List Item) → change ns (map (with_ligature_renamed name) xs) ≡ map (with_ligature_renamed name) (change ns xs)
  given : (last : ℕ) (ns : List ℕ) (xs : List Item) → AreGiven last xs → AreGiven last (change ns xs)
  many : (ns : List ℕ) (xs : List Item) → length (change ns xs) ≡ length xs

range_apart : (m : OtMapValue) (f : Feature) → AreSetApart (with_range m f)
range_apart m f = by_test (is_global f)
  where
    by_test : (b : Bool) → AreSetApart (λ ns xs. if b then xs else items_set (shifted_value f m) (bits_of f m) f.start f.end ns xs)
    by_test true = record { both = λ ns ms xs ys e. refl; renamed = λ name ns xs. refl; given = λ last ns xs h. h; many = λ ns xs. refl }
    by_test false = record {
      both = set_both (shifted_value f m) (bits_of f m) f.start f.end;
      renamed = set_renamed (shifted_value f m) (bits_of f m) f.start f.end;
      given = set_given (shifted_value f m) (bits_of f m) f.start f.end;
      many = set_many (shifted_value f m) (bits_of f m) f.start f.end;
    }

ranges_apart : (m : OtMapValue) (fs : List Feature) → AreSetApart (with_all_ranges m fs)
ranges_apart m [] = record { both = λ ns ms xs ys e. refl; renamed = λ name ns xs. refl; given = λ last ns xs h. h; many = λ ns xs. refl }
ranges_apart m (f ∷ fs) =
    let one = range_apart m f in
    let rest = ranges_apart m fs in
    record {
      both = λ ns ms xs ys e. ap (with_all_ranges m fs (ns ++ ms)) (one.both ns ms xs ys e) ∙ rest.both ns ms (with_range m f ns xs) (with_range m f ms ys) (e ∙ sym (one.many ns xs));
      renamed = λ name ns xs. ap (with_all_ranges m fs ns) (one.renamed name ns xs) ∙ rest.renamed name ns (with_range m f ns xs);
      given = λ last ns xs h. rest.given last ns (with_range m f ns xs) (one.given last ns xs h);
      many = λ ns xs. rest.many ns (with_range m f ns xs) ∙ one.many ns xs;
    }

-- ---- the stage

-- the state of a text with the masks of ranges, by its clusters
abbrev pub ranged_state : OtMapValue → List Feature → BufferState → BufferState
ranged_state m fs s = state_after (with_ranges m fs (numbers s.origins) s.view) s

ranged_whole : (m : OtMapValue) (fs : List Feature) (s : BufferState) → IsWhole s → IsWhole (ranged_state m fs s)
ranged_whole m fs s w = let many = (ranges_apart m fs).many (numbers s.origins) s.view.items in record { positions = w.positions ∙ sym many; origins = w.origins ∙ sym many }

line_apart : (change : List ℕ → List Item → List Item) → AreSetApart change → (falls : Bool) (ns ms : List ℕ) (xs ys : List Item) → length ns ≡ length xs → length ms ≡ length ys → change (as_they_stand falls ns ms) (as_they_stand falls xs ys) ≡ as_they_stand falls (change ns xs) (change ms ys)
line_apart change p false ns ms xs ys e f = p.both ns ms xs ys e
line_apart change p true ns ms xs ys e f = p.both ms ns ys xs f

pub line_numbers : (falls : Bool) (os qs : List Origin) → numbers (as_they_stand falls os qs) ≡ as_they_stand falls (numbers os) (numbers qs)
line_numbers false os qs = map-append (λ (o : Origin). o.cluster) os qs
line_numbers true os qs = map-append (λ (o : Origin). o.cluster) qs os

-- the masks of ranges of a text are those of its fragments
pub ranges_divide : (m : OtMapValue) (fs : List Feature) (falls : Bool) (c : ℕ) (whole earlier later : BufferState) → AreFragments falls c whole earlier later → AreFragments falls c (ranged_state m fs whole) (ranged_state m fs earlier) (ranged_state m fs later)
ranges_divide m fs falls c whole earlier later j =
    let p = ranges_apart m fs in
    let change = with_all_ranges m fs in
    let xs = earlier.view.items in
    let ys = later.view.items in
    let ns = numbers earlier.origins in
    let ms = numbers later.origins in
    let early_many : length ns ≡ length (map (with_ligature_renamed j.early_name) xs) = length-map earlier.origins (λ (o : Origin). o.cluster) ∙ j.early_whole.origins ∙ sym (length-map xs (with_ligature_renamed j.early_name)) in
    let late_many : length ms ≡ length (map (with_ligature_renamed j.late_name) ys) = length-map later.origins (λ (o : Origin). o.cluster) ∙ j.late_whole.origins ∙ sym (length-map ys (with_ligature_renamed j.late_name)) in
    record {
      early_name = j.early_name;
      late_name = j.late_name;
      names = record { early = j.names.early; late = j.names.late; apart = j.names.apart; early_given = p.given earlier.view.lig_id ns xs j.names.early_given; late_given = p.given later.view.lig_id ms ys j.names.late_given };
      items = ap (λ ks. change ks whole.view.items) (same_numbers whole.origins (as_they_stand falls earlier.origins later.origins) j.origins ∙ line_numbers falls earlier.origins later.origins)
          ∙ ap (change (as_they_stand falls ns ms)) j.items
          ∙ line_apart change p falls ns ms (map (with_ligature_renamed j.early_name) xs) (map (with_ligature_renamed j.late_name) ys) early_many late_many
          ∙ ap (λ zs. as_they_stand falls zs (change ms (map (with_ligature_renamed j.late_name) ys))) (p.renamed j.early_name ns xs)
          ∙ ap (λ zs. as_they_stand falls (map (with_ligature_renamed j.early_name) (change ns xs)) zs) (p.renamed j.late_name ms ys);
      positions = j.positions;
      origins = j.origins;
      below = j.below;
      above = j.above;
      early_some = j.early_some;
      late_some = j.late_some;
      early_whole = ranged_whole m fs earlier j.early_whole;
      late_whole = ranged_whole m fs later j.late_whole;
      early_of = record { direction = j.early_of.direction; level = j.early_of.level; requests = j.early_of.requests };
      late_of = record { direction = j.late_of.direction; level = j.late_of.level; requests = j.late_of.requests };
    }

pub ranges_given : (m : OtMapValue) (fs : List Feature) (last : ℕ) (ns : List ℕ) (xs : List Item) → AreGiven last xs → AreGiven last (with_all_ranges m fs ns xs)
ranges_given m fs = (ranges_apart m fs).given
