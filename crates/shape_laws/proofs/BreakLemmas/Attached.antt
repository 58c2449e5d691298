-- Links of a text while it is positioned.
use Rattle.std.proofs.Common.{ℕ, zero, suc, ◌≡◌, inl, inr, Bool, true, false, if◌then◌else◌, List, [], ◌∷◌, length, map, arith, refl, sym, ap, subst, ◌∙◌}
use Rattle.buffer_common.specs.declared.constants.BufferFlags.{BufferFlags}
use Rattle.buffer_common.specs.declared.direction.Direction.{Direction}
use Rattle.buffer_glyphs.specs.Items.{Item, Position, zero_position}
use Rattle.buffer_glyphs.proofs.Lists.{get_or_mapped}
use Rattle.buffer_glyphs.specs.declared.level.BufferClusterLevel.{BufferClusterLevel}
use Rattle.buffer_glyphs.specs.Events.{Event, IsPlain}
use Rattle.buffer_parts.specs.Counts.{count_after}
use Rattle.buffer_core.specs.Readings.{BufferState, Read, View, state_after, with_events}
use Rattle.buffer_stages.specs.PositionMaps.{positions_mapped}
use Rattle.buffer_parts.specs.Breaks.Fragments.{AreFragments, as_they_stand}
use Rattle.buffer_parts.specs.Breaks.Lossless.{AreLossless}
use Rattle.layout_offsets.specs.Finishing.{all_drawn_if, has_attachments, links_followed}
use Rattle.layout_offsets.specs.FollowedLinks.{finished_positions}
use Rattle.layout_offsets.specs.Links.{link_target, position_at}
use Rattle.layout_offsets.specs.Starting.{unattached_position}
use Rattle.buffer_glyphs.specs.PropertyWords.{is_default_ignorable}
use Rattle.shape_glyphs.specs.Widths.{ignorable_position, keeps_widths, widthless, zero_widths}
use Rattle.shape_laws.specs.Breaks.Apart.{AreLinkedApart}
use Rattle.shape_laws.specs.Breaks.Links.{AllLeadInside, AreUnlinked}
use Rattle.shape_laws.proofs.BreakLemmas.Changed.{IsLikeView, changed_fragments, mapped_many, with_view}
use Rattle.shape_laws.proofs.BreakLemmas.Followed.{both_finished, unlinked_finished}
use Rattle.shape_laws.proofs.BreakLemmas.PlainDivision.{IsPlainStage, state_by}
use Rattle.layout_offsets.proofs.Kept.{finished_length as finished_many}

-- ---- links cleared

pub cleared_unlinked : (ps : List Position) → AreUnlinked (map unattached_position ps)
cleared_unlinked ps i = ap (λ (p : Position). p.attach_chain) (get_or_mapped unattached_position ps i zero_position)

-- ---- positions with the same links

record HaveSameLinks (ps qs : List Position) : Type 0 where
  long : length qs ≡ length ps
  chains : (i : ℕ) → (position_at i qs).attach_chain ≡ (position_at i ps).attach_chain

same_inside : (ps qs : List Position) → HaveSameLinks ps qs → AllLeadInside ps → AllLeadInside qs
same_inside ps qs h inside i = elim (inside i) [
  | inl none ↦ inl (h.chains i ∙ none)
  | inr there ↦ inr (there.0, ap (λ (n : ℕ). link_target n i (position_at i qs).attach_chain) h.long ∙ ap (link_target (length ps) i) (h.chains i) ∙ there.1)
]

same_unlinked : (ps qs : List Position) → HaveSameLinks ps qs → AreUnlinked ps → AreUnlinked qs
same_unlinked ps qs h none i = h.chains i ∙ none i

pub mapped_chains : (k : Item → Position → Position) → ((x : Item) (p : Position) → (k x p).attach_chain ≡ p.attach_chain) → (xs : List Item) (ps : List Position) → length ps ≡ length xs → (i : ℕ) → (position_at i (positions_mapped k xs ps)).attach_chain ≡ (position_at i ps).attach_chain
mapped_chains k keeps [] [] e i = refl
mapped_chains k keeps [] (p ∷ ps) e i = absurd (omega (arith, e))
mapped_chains k keeps (x ∷ xs) [] e i = refl
mapped_chains k keeps (x ∷ xs) (p ∷ ps) e zero = keeps x p
mapped_chains k keeps (x ∷ xs) (p ∷ ps) e (suc i) = mapped_chains k keeps xs ps (omega (arith, e)) i

ignorable_chain : (x : Item) (p : Position) → (ignorable_position x p).attach_chain ≡ p.attach_chain
ignorable_chain x p = elim (is_default_ignorable x) as (λ b. (if b then widthless p else p).attach_chain ≡ p.attach_chain) [ true ↦ refl | false ↦ refl ]

widths_same : (flags : BufferFlags) (v : View) → length v.positions ≡ length v.items → HaveSameLinks v.positions (zero_widths flags v).view.positions
widths_same flags v e = by_test (keeps_widths flags)
  where
    by_test : (b : Bool) → HaveSameLinks v.positions (if b then with_events [] v else with_events [] (record v { positions = positions_mapped ignorable_position v.items v.positions })).view.positions
    by_test true = record { long = refl; chains = λ i. refl }
    by_test false = record { long = mapped_many ignorable_position v.items v.positions e; chains = mapped_chains ignorable_position ignorable_chain v.items v.positions e }

widths_flags : (flags : BufferFlags) (v : View) → (zero_widths flags v).view.scratch_flags ≡ v.scratch_flags
widths_flags flags v = elim (keeps_widths flags) as (λ b. (if b then with_events [] v else with_events [] (record v { positions = positions_mapped ignorable_position v.items v.positions })).view.scratch_flags ≡ v.scratch_flags) [ true ↦ refl | false ↦ refl ]

-- zeroed widths keep links
widths_flagged : (flags : BufferFlags) (v : View) → length v.positions ≡ length v.items → (has_attachments v.scratch_flags ≡ false → AreUnlinked v.positions) → has_attachments (zero_widths flags v).view.scratch_flags ≡ false → AreUnlinked (zero_widths flags v).view.positions
widths_flagged flags v e none f = same_unlinked v.positions (zero_widths flags v).view.positions (widths_same flags v e) (none (ap has_attachments (sym (widths_flags flags v)) ∙ f))

pub widths_linked : (flags flags1 flags2 : BufferFlags) (whole earlier later : View) → length whole.positions ≡ length whole.items → length earlier.positions ≡ length earlier.items → length later.positions ≡ length later.items → AreLinkedApart whole earlier later
    → AreLinkedApart (zero_widths flags whole).view (zero_widths flags1 earlier).view (zero_widths flags2 later).view
widths_linked flags flags1 flags2 whole earlier later w e l h = record {
  early_inside = same_inside earlier.positions (zero_widths flags1 earlier).view.positions (widths_same flags1 earlier e) h.early_inside;
  late_inside = same_inside later.positions (zero_widths flags2 later).view.positions (widths_same flags2 later l) h.late_inside;
  whole_flagged = widths_flagged flags whole w h.whole_flagged;
  early_flagged = widths_flagged flags1 earlier e h.early_flagged;
  late_flagged = widths_flagged flags2 later l h.late_flagged;
}

-- ---- links followed

-- where no glyph is said to be attached, there is no link to follow
drawn_is : (v : View) → (has_attachments v.scratch_flags ≡ false → AreUnlinked v.positions) → links_followed v ≡ with_events [] (record v { positions = finished_positions v.direction v.positions })
drawn_is v none = by_test (has_attachments v.scratch_flags) refl
  where
    by_test : (b : Bool) → has_attachments v.scratch_flags ≡ b → all_drawn_if b v ≡ with_events [] (record v { positions = finished_positions v.direction v.positions })
    by_test true e = refl
    by_test false e = ap (λ (ps : List Position). with_events [] (record v { positions = ps })) (sym (unlinked_finished v.direction v.positions (none e)))

followed_by : (b : Bool) (v : View) → length v.positions ≡ length v.items → length (all_drawn_if b v).view.positions ≡ length (all_drawn_if b v).view.items
followed_by true v e = finished_many v.direction v.positions ∙ e
followed_by false v e = e

eventless_by : (b : Bool) (v : View) (level : BufferClusterLevel) → (all_drawn_if b v).events level ≡ []
eventless_by true v level = refl
eventless_by false v level = refl

many_by : (b : Bool) (v : View) → length (all_drawn_if b v).view.items ≡ length v.items
many_by true v = refl
many_by false v = refl

pub followed_is_plain : IsPlainStage links_followed
followed_is_plain = record {
  plain = λ v level. subst IsPlain (sym (eventless_by (has_attachments v.scratch_flags) v level)) tt;
  lossless = λ v level. subst (λ (es : List Event). AreLossless es (length v.items)) (sym (eventless_by (has_attachments v.scratch_flags) v level)) tt;
  counted = λ v level. ap (λ (es : List Event). count_after es (length v.items)) (eventless_by (has_attachments v.scratch_flags) v level) ∙ sym (many_by (has_attachments v.scratch_flags) v);
  positions = λ v e. followed_by (has_attachments v.scratch_flags) v e;
}

-- a view with its links followed
abbrev drawn_view : View → View
drawn_view v = record v { positions = finished_positions v.direction v.positions }

drawn_like : (v : View) → IsLikeView v (drawn_view v)
drawn_like v = record { direction = refl; lig_id = refl; items = refl; positions = finished_many v.direction v.positions }

drawn_state : (s : BufferState) → (has_attachments s.view.scratch_flags ≡ false → AreUnlinked s.view.positions) → with_view (drawn_view s.view) s ≡ state_by links_followed s
drawn_state s none = ap (λ (r : Read). state_after r s) (sym (drawn_is s.view none))

line_finished : (falls : Bool) (d : Direction) (ps qs : List Position) → AllLeadInside ps → AllLeadInside qs → finished_positions d (as_they_stand falls ps qs) ≡ as_they_stand falls (finished_positions d ps) (finished_positions d qs)
line_finished false d ps qs h k = both_finished d ps qs h k
line_finished true d ps qs h k = both_finished d qs ps k h

-- the links of a text are followed as those of its fragments, where these lead inside
pub links_divide : (falls : Bool) (c : ℕ) (whole earlier later : BufferState) → AreFragments falls c whole earlier later → AreLinkedApart whole.view earlier.view later.view
    → AreFragments falls c (state_by links_followed whole) (state_by links_followed earlier) (state_by links_followed later)
links_divide falls c whole earlier later j h =
    let d = whole.view.direction in
    let ps = earlier.view.positions in
    let qs = later.view.positions in
    let all = changed_fragments falls c whole earlier later (drawn_view whole.view) (drawn_view earlier.view) (drawn_view later.view) j (drawn_like whole.view) (drawn_like earlier.view) (drawn_like later.view) j.names.early_given j.names.late_given j.items
    (ap (finished_positions d) j.positions ∙ line_finished falls d ps qs h.early_inside h.late_inside
    ∙ ap (λ (b : Direction). as_they_stand falls (finished_positions b ps) (finished_positions d qs)) (sym j.early_of.direction)
    ∙ ap (λ (b : Direction). as_they_stand falls (finished_positions earlier.view.direction ps) (finished_positions b qs)) (sym j.late_of.direction)) in
    subst (λ (s : BufferState). AreFragments falls c s (state_by links_followed earlier) (state_by links_followed later)) (drawn_state whole h.whole_flagged)
    (subst (λ (s : BufferState). AreFragments falls c (with_view (drawn_view whole.view) whole) s (state_by links_followed later)) (drawn_state earlier h.early_flagged)
    (subst (λ (s : BufferState). AreFragments falls c (with_view (drawn_view whole.view) whole) (with_view (drawn_view earlier.view) earlier) s) (drawn_state later h.late_flagged) all))
