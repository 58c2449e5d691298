-- The slices of a text, in its order.
use Rattle.std.proofs.Common.{ℕ, zero, suc, ◌≡◌, ◌<◌, ◌+◌, ◌-◌, Bool, true, false, List, [], ◌∷◌, ◌++◌, length, map, replicate, reverse, arith, inl, inr, refl, sym, ap, subst, ◌∙◌}
use Rattle.std.specs.Prelude.{Contains, IsCharBoundary}
use Rattle.std.specs.List.{flat_map}
use Rattle.std.specs.Str.{IsUtf8}
use Rattle.std.proofs.lemmas.List.{reverse-append, reverse-reverse}
use Rattle.std.proofs.lemmas.List.Elements.{All-nil, Contains-get_or}
use Rattle.std.proofs.lemmas.Str.{IsCharBoundary-end}
use Rattle.buffer_facts.proofs.Numbers.{same_by_test}
use Rattle.kuspveli.specs.buffer_common.Direction.{is_backward}
use Rattle.kuspveli.specs.buffer_common.declared.direction.Direction.{Direction}
use Rattle.kuspveli.specs.buffer_glyphs.Items.{clusters}
use Rattle.kuspveli.specs.buffer_glyphs.Lemmas.Numbers.{Has, has_here, has_left, has_right}
use Rattle.kuspveli.specs.buffer_parts.Slices.{AreJoined, slices}
use Rattle.kuspveli.specs.shape_slices.declared.slices.SourceSlice.{SourceSlice}
use Rattle.kuspveli.specs.shape_slices.Fitting.{SlicesFit}
use Rattle.kuspveli.specs.shape_slices.Laws.{SourceSlicesJoin}
use Rattle.kuspveli.specs.shape_slices.Runs as source
use Rattle.kuspveli.specs.shaping_buffer.buffer_core.Sides.{Sides, all_glyphs}
use Rattle.shape_slices.proofs.Starts.{boundary_from_start}
use Rattle.caret_model.specs.Lines.{HasLine}
use Rattle.caret_model.specs.Pens.{are_at_beginning}
use Rattle.caret_model.specs.Stops.{in_text_order}
use Rattle.caret_model.proofs.Beginnings.{line_joins}
use Rattle.caret_model.proofs.Joins.{joined_before, joined_none}
use Rattle.cell_grid.specs.Grids.{HasCells}
use Rattle.cell_grid.specs.Walk.{AreTextSlices, IsSliceOf}
use Rattle.cell_grid.proofs.Glyphs.{contains_back, contains_cases, inside}
use Rattle.cell_grid.proofs.Shared.{turned_map}

-- ---- texts without cells

pub no_cells : (d : Direction) (result : Sides) (text : List ℕ) → ¬ ((text ≡ []) × (all_glyphs result ≡ [])) → ¬ HasLine d result text → ¬ HasCells d result text
no_cells d result text some none has = elim has [ inl both ↦ some both | inr line ↦ none line ]

-- ---- the slices of a line

one_reversed : (end : ℕ) (ss : List SourceSlice) → AreJoined 0 end (reverse (map source.byte_range ss)) → are_at_beginning false end ss ≡ true → map source.byte_range ss ≡ reverse (map source.byte_range ss)
one_reversed end [] joined test = refl
one_reversed end (s ∷ ss) joined test =
    let turned : reverse (source.byte_range s ∷ map source.byte_range ss) ≡ reverse (map source.byte_range ss) ++ source.byte_range s ∷ [] = reverse-append (source.byte_range s ∷ []) (map source.byte_range ss) in
    let parts = joined_before 0 end (reverse (map source.byte_range ss)) (source.byte_range s) (subst (AreJoined 0 end) turned joined) in
    let first : s.start ≡ 0 = same_by_test s.start 0 test in
    let none : reverse (map source.byte_range ss) ≡ [] = joined_none 0 s.start (reverse (map source.byte_range ss)) (sym first) parts.2 in
    let empty : map source.byte_range ss ≡ [] = sym (reverse-reverse (map source.byte_range ss)) ∙ ap reverse none in
    let P : List (ℕ × ℕ) → Type 0 = λ rs. source.byte_range s ∷ rs ≡ reverse (source.byte_range s ∷ rs) in
    subst P (sym empty) refl

one_turned : (end : ℕ) (ss : List SourceSlice) → AreJoined 0 end (map source.byte_range ss) → are_at_beginning true end ss ≡ true → reverse (map source.byte_range ss) ≡ map source.byte_range ss
one_turned end [] joined test = refl
one_turned end (s ∷ ss) joined test =
    let last : s.end ≡ end = same_by_test s.end end test in
    let empty : map source.byte_range ss ≡ [] = joined_none s.end end (map source.byte_range ss) last joined.2 in
    let P : List (ℕ × ℕ) → Type 0 = λ rs. reverse (source.byte_range s ∷ rs) ≡ source.byte_range s ∷ rs in
    subst P (sym empty) refl

-- slices along a line are those in the order of the text
along_is : (b : Bool) (ss : List SourceSlice) → source.along_glyphs b (map source.byte_range ss) ≡ map source.byte_range (in_text_order b ss)
along_is false ss = refl
along_is true ss = turned_map source.byte_range ss

-- ---- slices begin and end where characters do

has_some : (m x : ℕ) → 0 < m → Has (replicate m x) x
has_some zero x some = absurd (omega (arith, some))
has_some (suc m) x some = has_here x (replicate m x)

-- a slice begins at a cluster
run_has : (ss : List SourceSlice) (s : SourceSlice) → Contains ss s → s.first_glyph < s.end_glyph → Has (flat_map source.run_clusters ss) s.start
run_has [] s has some = let none = has.1 in absurd (omega (arith, none))
run_has (r ∷ ss) s has some = elim (contains_cases r ss s has) [
  | inl same ↦
      let P : SourceSlice → Type 0 = λ q. Has (source.run_clusters q) s.start in
      has_left s.start (source.run_clusters r) (flat_map source.run_clusters ss) (subst P (sym same) (has_some (s.end_glyph - s.first_glyph) s.start (omega (arith, some))))
  | inr later ↦ has_right s.start (source.run_clusters r) (flat_map source.run_clusters ss) (run_has ss s later some)
]

cut_ends : (text : List ℕ) (from : ℕ) (ss : List SourceSlice) → AreJoined from (length text) (map source.byte_range ss) → ((s : SourceSlice) → Contains ss s → IsCharBoundary text s.start) → (s : SourceSlice) → Contains ss s → IsCharBoundary text s.end
cut_ends text from [] joined starts s has = let none = has.1 in absurd (omega (arith, none))
cut_ends text from (r ∷ ss) joined starts s has = elim (contains_cases r ss s has) [
  | inl same ↦ let P : SourceSlice → Type 0 = λ q. IsCharBoundary text q.end in subst P same (first ss joined.2 (λ q among. starts q (suc among.0, let lt = among.1 in omega (arith, lt), among.2)))
  | inr later ↦ cut_ends text r.end ss joined.2 (λ q among. starts q (suc among.0, let lt = among.1 in omega (arith, lt), among.2)) s later
]
  where
    first : (qs : List SourceSlice) → AreJoined r.end (length text) (map source.byte_range qs) → ((q : SourceSlice) → Contains qs q → IsCharBoundary text q.start) → IsCharBoundary text r.end
    first [] last more = subst (IsCharBoundary text) (sym last) (IsCharBoundary-end text)
    first (q ∷ qs) next more = subst (IsCharBoundary text) next.0 (more q (0, omega arith, refl))

twice : (b : Bool) (ss : List SourceSlice) → in_text_order b (in_text_order b ss) ≡ ss
twice false ss = refl
twice true ss = reverse-reverse ss

-- the slices of an empty text
pub no_slices : (b : Bool) (result : Sides) (text : List ℕ) → text ≡ [] → all_glyphs result ≡ [] → AreTextSlices b (clusters (all_glyphs result)) text []
no_slices b result text empty none = record {
  bytes = ap (λ gs. slices (clusters gs) (length text)) (sym none);
  joined = sym (ap length empty);
  glyphs = glyphs b;
  clusters = same b;
  cuts = All-nil (IsSliceOf text);
}
  where
    glyphs : (c : Bool) → AreJoined 0 (length (clusters (all_glyphs result))) (map source.glyph_range (in_text_order c []))
    glyphs false = ap (λ gs. length (clusters gs)) (sym none)
    glyphs true = ap (λ gs. length (clusters gs)) (sym none)

    same : (c : Bool) → flat_map source.run_clusters (in_text_order c []) ≡ clusters (all_glyphs result)
    same false = ap clusters (sym none)
    same true = ap clusters (sym none)

module _ (law : SourceSlicesJoin) (result : Sides) (text : List ℕ) (utf8 : IsUtf8 text) (fits : SlicesFit result text) where
  abbrev cs : List ℕ
  cs = clusters (all_glyphs result)

  -- they are the intervals between clusters, whichever way these run
  bytes_along : (b : Bool) (ss : List SourceSlice) → source.AreSourceSlices cs (length text) ss → are_at_beginning b (length text) ss ≡ true → source.along_glyphs b (map source.byte_range ss) ≡ slices cs (length text)
  bytes_along false ss are test = elim fits.ordered [
    | inl rising ↦ are.bytes false rising
    | inr falling ↦
        let joined = law true text cs ss utf8 fits falling are in
        one_reversed (length text) ss joined test ∙ ap reverse (are.bytes true falling) ∙ reverse-reverse (slices cs (length text))
  ]
  bytes_along true ss are test = elim fits.ordered [
    | inl rising ↦ one_turned (length text) ss (law false text cs ss utf8 fits rising are) test ∙ are.bytes false rising
    | inr falling ↦ ap reverse (are.bytes true falling) ∙ reverse-reverse (slices cs (length text))
  ]

  -- all slices of the same clusters have the same bytes
  same_bytes : (ss ts : List SourceSlice) → source.AreSourceSlices cs (length text) ss → source.AreSourceSlices cs (length text) ts → map source.byte_range ss ≡ map source.byte_range ts
  same_bytes ss ts are other = elim fits.ordered [ inl rising ↦ are.bytes false rising ∙ sym (other.bytes false rising) | inr falling ↦ are.bytes true falling ∙ sym (other.bytes true falling) ]

  pub has_line : (d : Direction) (b : Bool) (ss : List SourceSlice) → b ≡ is_backward d → source.AreSourceSlices cs (length text) ss → are_at_beginning b (length text) ss ≡ true → HasLine d result text
  has_line d b ss same are test = record {
    fits = fits;
    joined = λ ts other.
        let P : Bool → Type 0 = λ c. AreJoined 0 (length text) (source.along_glyphs c (map source.byte_range ts)) in
        let Q : List (ℕ × ℕ) → Type 0 = λ qs. AreJoined 0 (length text) (source.along_glyphs b qs) in
        subst P same (subst Q (same_bytes ss ts are other) (line_joins law b text cs ss utf8 fits are test));
  }

  pub made_slices : (b : Bool) (ss ts : List SourceSlice) → source.AreSourceSlices cs (length text) ss → are_at_beginning b (length text) ss ≡ true → ts ≡ in_text_order b ss → AreTextSlices b cs text ts
  made_slices b ss ts are test turned = subst (AreTextSlices b cs text) (sym turned) slices_are
    where
      qs : List SourceSlice
      qs = in_text_order b ss

      joined : AreJoined 0 (length text) (map source.byte_range qs)
      joined = subst (AreJoined 0 (length text)) (along_is b ss) (line_joins law b text cs ss utf8 fits are test)

      among : (s : SourceSlice) → Contains qs s → Contains ss s
      among s has = contains_back b ss s has

      starts : (s : SourceSlice) → Contains qs s → IsCharBoundary text s.start
      starts s has =
          let P : List ℕ → Type 0 = λ ms. Has ms s.start in
          let some = (inside source.glyph_range 0 (length cs) ss s are.glyphs (among s has)).1 in
          (boundary_from_start text s.start utf8 (fits.starting s.start (subst P are.clusters (run_has ss s (among s has) some)))).1

      cut : (s : SourceSlice) → Contains qs s → IsSliceOf text s
      cut s has =
          let some = (inside source.byte_range 0 (length text) qs s joined has).1 in
          record { ordered = omega (arith, some); start = starts s has; end = cut_ends text 0 qs joined starts s has }

      slices_are : AreTextSlices b cs text qs
      slices_are = record {
        bytes = sym (along_is b ss) ∙ bytes_along b ss are test;
        joined = joined;
        glyphs = let P : List SourceSlice → Type 0 = λ gs. AreJoined 0 (length cs) (map source.glyph_range gs) in subst P (sym (twice b ss)) are.glyphs;
        clusters = ap (flat_map source.run_clusters) (twice b ss) ∙ are.clusters;
        cuts = λ k d lt. cut _ (Contains-get_or qs k d lt);
      }
