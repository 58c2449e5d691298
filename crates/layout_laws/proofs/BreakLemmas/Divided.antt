-- Passes of local rules read a text as its fragments.
use Rattle.std.proofs.Common.{ℕ, ◌≡◌, ◌+◌, inl, inr, true, false, List, [], ◌++◌, length, map, refl, ap, sym, subst, ◌∙◌}
use Rattle.std.proofs.lemmas.List.{append-nil, length-append, length-map}
use Rattle.buffer_glyphs.specs.declared.level.BufferClusterLevel.{BufferClusterLevel}
use Rattle.buffer_glyphs.specs.Items.{Item, Position}
use Rattle.buffer_glyphs.specs.Events.{Event, origins_after}
use Rattle.buffer_parts.specs.Counts.{count_after}
use Rattle.buffer_core.specs.Readings.{View, Read, then_read}
use Rattle.buffer_core.specs.Sides.{zero_positions}
use Rattle.buffer_stages.specs.Actions.{Action}
use Rattle.buffer_parts.specs.Breaks.Unsafe.{IsUnsafeAt}
use Rattle.buffer_parts.specs.Breaks.Concat.{without_concats}
use Rattle.buffer_parts.specs.Breaks.Sides.{AreBounded}
use Rattle.buffer_parts.specs.Breaks.Fragments.{with_ligature_renamed}
use Rattle.buffer_parts.specs.Breaks.Beside.{events_as_they_stand, IsReadAlone, IsReadBeside}
use Rattle.layout_match.specs.Trying.{with_zero_positions, forward_pass}
use Rattle.layout_laws.specs.Breaks.Local.{AnyPositions, IsLocal, IsSteady}
use Rattle.layout_laws.specs.Breaks.Divided.{PassesReadBeside}
use Rattle.layout_laws.proofs.BreakLemmas.Outcomes.{local_or_idle}
use Rattle.layout_laws.proofs.BreakLemmas.Passes.{IsPass, pass_read, pass_events, enough_spared, zero_both, zero_long, count_without}
use Rattle.layout_laws.proofs.BreakLemmas.Ways.{forward_way}
use Rattle.layout_laws.proofs.BreakLemmas.Lines.{IsReadOf, IsLine, IsLineRead, line_reads}
use Rattle.layout_laws.proofs.BreakLemmas.Standing.{ArePut, ReadsLines, reads_beside}

-- positions after a pass are zero
pub pass_positions : (act : Action) (v : View) (r : Read) → IsPass act v r → r.view.positions ≡ zero_positions (length r.view.items)
pass_positions act v r p = ap (λ (x : Read). x.view.positions) (sym p.read) ∙ ap (λ (x : Read). zero_positions (length x.view.items)) p.read

-- ---- what was read, at zero positions

abbrev zero_read : Read → Read
zero_read walk = then_read walk (with_zero_positions walk.view)

zero_alone : (level : BufferClusterLevel) (n : ℕ) (r : Read) → IsReadOf AnyPositions level n r → IsReadAlone level n (zero_read r)
zero_alone level n r k =
    let same = append-nil (r.events level) in
    record {
      bounded = subst (λ (es : List Event). AreBounded (without_concats es) n) (sym same) k.bounded;
      positions = zero_long (length r.view.items);
      counted = ap (λ (es : List Event). count_after es n) same ∙ sym (count_without (r.events level) n) ∙ k.counted;
      some = k.some;
    }

renamed_long : (f g : ℕ → ℕ) (xs ys zs : List Item) → zs ≡ map (with_ligature_renamed f) xs ++ map (with_ligature_renamed g) ys → length zs ≡ length xs + length ys
renamed_long f g xs ys zs e =
    ap (λ (is : List Item). length is) e ∙ length-append (map (with_ligature_renamed f) xs) (map (with_ligature_renamed g) ys)
    ∙ ap (λ (k : ℕ). k + length (map (with_ligature_renamed g) ys)) (length-map xs (with_ligature_renamed f)) ∙ ap (λ (k : ℕ). length xs + k) (length-map ys (with_ligature_renamed g))

zero_beside : (level : BufferClusterLevel) (m n : ℕ) (r e l : Read) → IsLineRead false AnyPositions level m n r e l → IsReadBeside false false level m n (zero_read r) (zero_read e) (zero_read l)
zero_beside level m n r e l k =
    let in_line : List Event → List Event → List Event = λ es fs. events_as_they_stand false false (without_concats es) (without_concats fs) m n in
    record {
      early_name = k.first_name;
      late_name = k.second_name;
      names = record { early = k.names.early; late = k.names.late; apart = k.names.apart; early_given = k.names.early_given; late_given = k.names.late_given };
      items = k.items;
      positions = ap zero_positions (renamed_long k.first_name k.second_name e.view.items l.view.items r.view.items k.items) ∙ zero_both (length e.view.items) (length l.view.items);
      events = ap without_concats (append-nil (r.events level)) ∙ k.events ∙ ap (λ (es : List Event). in_line es (l.events level)) (sym (append-nil (e.events level))) ∙ ap (in_line (e.events level ++ [])) (sym (append-nil (l.events level)));
      early_direction = k.first_direction;
      late_direction = k.second_direction;
      early = zero_alone level m e k.first;
      late = zero_alone level n l k.second;
    }

-- ---- passes

-- substitutions have no positions
abbrev no_positions : View → List Position
no_positions v = []

none_put : ArePut no_positions
none_put false v u w e = refl
none_put true v u w e = refl

passes_read_lines : (act : Action) → IsLocal AnyPositions act → IsSteady act → ReadsLines false no_positions (forward_pass act)
passes_read_lines act local steady c text first second r e l is is_r is_e is_l ar ae al =
    let level = text.level in
    let m = length first.origins in
    let n = length second.origins in
    let pr = pass_read act text.view r is_r in
    let pe = pass_read act first.view e is_e in
    let pl = pass_read act second.view l is_l in
    let same = pass_events act text.view r pr level in
    let way = forward_way AnyPositions act no_positions level text.view (λ o c d p q k. tt) (local_or_idle AnyPositions act local) steady in
    elim (line_reads false AnyPositions no_positions c text first second way pr.walk pe.walk pl.walk (subst (IsLine false no_positions c text first second) (sym same) is) tt (λ s end f k v. tt)
    (pr.walk_is, enough_spared act text.view r pr level ar) (pe.walk_is, enough_spared act first.view e pe level ae) (pl.walk_is, enough_spared act second.view l pl level al)) [
      | inl unsafe ↦ inl (subst (λ (es : List Event). IsUnsafeAt c (origins_after text.asks level es text.origins)) same unsafe)
      | inr read ↦ inr
          (subst (λ (x : Read). IsReadBeside false false level m n x e l) pr.read
          (subst (λ (y : Read). IsReadBeside false false level m n (zero_read pr.walk) y l) pe.read
          (subst (λ (z : Read). IsReadBeside false false level m n (zero_read pr.walk) (zero_read pe.walk) z) pl.read (zero_beside level m n pr.walk pe.walk pl.walk read))))
    ]

pub passes_read_beside : PassesReadBeside
passes_read_beside falls act local steady kept lossless = reads_beside no_positions none_put (forward_pass act) kept lossless false falls (passes_read_lines act local steady)
