-- Glyphs joined at the cursor.
use Rattle.std.proofs.Common.{ℕ, ◌≡◌, ◌<◌, ◌≤◌, ◌+◌, ◌-◌, Bool, true, false, List, [], ◌∷◌, Option, Some, None, Result, Ok, length, drop, reverse, arith, refl, sym, ap, subst, ◌∙◌, slice_get}
use Rattle.std.proofs.lemmas.List.{take_at}
use Rattle.buffer_glyphs.specs.declared.info.hb_glyph_info_t.{hb_glyph_info_t}
use Rattle.buffer_common.specs.declared.direction.Direction.{Direction}
use Rattle.buffer_glyphs.specs.Items.{Position}
use Rattle.buffer_glyphs.specs.Events.{Break}
use Rattle.buffer_core.specs.Lending.{with_positions_refilled}
use Rattle.buffer_core.specs.Sides.{Sides, after_next_glyphs, stage_flags}
use Rattle.layout_common.specs.declared.glyph_row.GlyphRow.{GlyphRow}
use Rattle.layout_match.specs.Applied.{ApplyContext}
use Rattle.layout_tables.specs.declared.cursive.EntryExit.{EntryExit}
use Rattle.layout_tables.specs.declared.value.Anchor.{Anchor}
use Rattle.buffer_stages.specs.Actions.{Cut, Outcome, at_first, attempt_around}
use Rattle.buffer_stages.specs.Buffers.{IsPassed, Frame, cut_of}
use Rattle.buffer_stages.specs.Performing.{IsPerformed, cut_with}
use Rattle.buffer_stages.proofs.Lemmas.Frames.{same_lengths}
use Rattle.buffer_stages.proofs.Lemmas.Glyphs.{first_item}
use Rattle.buffer_stages.proofs.Lemmas.Performed.{passes_nothing}
use Rattle.layout_gpos.specs.Anchors.{with_attachment_flag}
use Rattle.layout_offsets.specs.Links.{is_near}
use Rattle.layout_offsets.specs.Cursive.{attaches_earlier, cursive_attachment}
use Rattle.layout_offsets.proofs.Lemmas.Joined.{joined_length}
use Rattle.layout_positioning.specs.Joins.{cursive_subtable, entry_of, exit_of, from_entry, join, join_if, on_exit}
use Rattle.layout_gpos.specs.Marks.{item_before, with_found}
use Rattle.layout_gpos.specs.Moving.{break_around}
use Rattle.layout_gpos.proofs.Lemmas.Performed.{found_is, marked_told, told_same}
use Rattle.layout_gpos.proofs.Lemmas.Placed.{break_passed, front_count}

pub joined_back : (ps : List Position) (d : Direction) (earlier : Bool) (first second : ℕ) (exit entry : Anchor) (s new : Sides) → new ≡ with_positions_refilled ps s → ps ≡ cursive_attachment d earlier first exit second entry s.positions
    → new ≡ record s { positions = cursive_attachment d earlier first exit second entry s.positions }
joined_back ps d earlier first second exit entry s new e is =
    let qs = cursive_attachment d earlier first exit second entry s.positions in
    e ∙ ap (λ rs. with_positions_refilled rs s) is ∙ ap (λ rs. record s { positions = rs }) (take_at qs (drop (length qs) s.positions) (length s.positions) (joined_length d earlier first second exit entry s.positions))

-- ---- at the cursor

pub join_acted : (r back at first : ℕ) (a : ApplyContext) (exit entry : Anchor) (near : Bool) (s mid new : Sides) → IsPassed (Break (length s.behind - (back + 1)) (length s.behind + 1) ∷ []) s mid → at ≡ length s.behind → 0 < length s.ahead
    → first ≡ at - (back + 1) → near ≡ is_near at first → new ≡ after_next_glyphs 1 (record mid { positions = cursive_attachment mid.direction (attaches_earlier a.props) first exit at entry mid.positions; scratch_flags = with_attachment_flag near mid.scratch_flags })
    → IsPerformed (join s.direction a exit entry back (cut_with r s)) true r r s new
join_acted r back at first a exit entry near s mid new p here there is is_near_at e =
    let long = same_lengths s mid p.cut_is in
    let earlier = attaches_earlier a.props in
    let front : Cut → ℕ = λ c. length c.front in
    let ps : Cut → List Position = λ c. cursive_attachment s.direction earlier (length c.front - (back + 1)) exit (length c.front) entry c.positions in
    let t : Cut → ℕ = λ c. with_attachment_flag (is_near (length c.front) (length c.front - (back + 1))) c.scratch_flags in
    let c = cut_with r mid in
    let way : mid.direction ≡ s.direction = ap (λ (f : Frame). f.direction) p.still in
    let at_mid : at ≡ length c.front = here ∙ sym long.0 ∙ front_count r mid in
    let first_mid : first ≡ length c.front - (back + 1) = is ∙ ap (λ (k : ℕ). k - (back + 1)) at_mid in
    let near_mid : near ≡ is_near (length c.front) (length c.front - (back + 1)) = is_near_at ∙ ap (λ (k : ℕ). is_near k first) at_mid ∙ ap (is_near (length c.front)) first_mid in
    let scratch_flags : stage_flags (with_attachment_flag near mid.scratch_flags) ≡ t c = told_same near mid.scratch_flags ∙ ap (λ (b : Bool). with_attachment_flag b (stage_flags mid.scratch_flags)) near_mid in
    let at_list : Direction → ℕ → ℕ → Sides = λ d k j. after_next_glyphs 1 (record mid { positions = cursive_attachment d earlier j exit k entry mid.positions; scratch_flags = with_attachment_flag near mid.scratch_flags }) in
    let placed : new ≡ after_next_glyphs 1 (record mid { positions = ps c; scratch_flags = with_attachment_flag near mid.scratch_flags }) =
    e ∙ ap (λ (d : Direction). at_list d at first) way ∙ ap (λ (k : ℕ). at_list s.direction k first) at_mid ∙ ap (λ (j : ℕ). at_list s.direction (length c.front) j) first_mid in
    let le : 1 ≤ length mid.ahead = let more = long.1 in omega (arith, more, there) in
    (refl, marked_told (break_around (back + 1) 1 (cut_of s)) 1 r (with_attachment_flag near mid.scratch_flags) ps t s mid new (break_passed (back + 1) 1 s mid p) (omega arith) le scratch_flags placed)

pub not_joined : (r back : ℕ) (d : Direction) (a : ApplyContext) (exit : Option Anchor) (entry : Anchor) (s new : Sides) → exit ≡ None → IsPerformed (attempt_around (back + 1) 1 (cut_with r s)) false r r s new → IsPerformed (join_if d a exit entry back (cut_with r s)) false r r s new
not_joined r back d a exit entry s new e done = subst (λ (o : Option Anchor). IsPerformed (join_if d a o entry back (cut_with r s)) false r r s new) (sym e) done

pub both_joined : (r back : ℕ) (d : Direction) (a : ApplyContext) (exit : Option Anchor) (x entry : Anchor) (s new : Sides) → exit ≡ Some x → IsPerformed (join d a x entry back (cut_with r s)) true r r s new → IsPerformed (join_if d a exit entry back (cut_with r s)) true r r s new
both_joined r back d a exit x entry s new e done = subst (λ (o : Option Anchor). IsPerformed (join_if d a o entry back (cut_with r s)) true r r s new) (sym e) done

pub found_joined : (r back n : ℕ) (d : Direction) (a : ApplyContext) (rows : List (GlyphRow EntryExit)) (entry : Anchor) (exit : Option Anchor) (found : Result ℕ ℕ) (acted : Bool) (s new : Sides) (g : hb_glyph_info_t) → slice_get (reverse s.behind) back ≡ Some g → n ≡ g.glyph_id → exit ≡ exit_of rows n → found ≡ Ok back
    → IsPerformed (join_if d a exit entry back (cut_with r s)) acted r r s new → IsPerformed (with_found (on_exit d a rows entry) found (cut_with r s)) acted r r s new
found_joined r back n d a rows entry exit found acted s new g at is exits e done =
    let same : with_found (on_exit d a rows entry) found (cut_with r s) ≡ join_if d a exit entry back (cut_with r s) =
    ap (λ f. with_found (on_exit d a rows entry) f (cut_with r s)) e ∙ found_is r back (on_exit d a rows entry) s g at
    ∙ ap (λ (k : ℕ). join_if d a (exit_of rows k) entry back (cut_with r s)) (sym is) ∙ ap (λ o. join_if d a o entry back (cut_with r s)) (sym exits) in
    subst (λ (o : Outcome). IsPerformed o acted r r s new) (sym same) done

cursive_is : (r n : ℕ) (d : Direction) (a : ApplyContext) (rows : List (GlyphRow EntryExit)) (o : Option Anchor) (s : Sides) (g : hb_glyph_info_t) → slice_get s.ahead 0 ≡ Some g → n ≡ g.glyph_id → o ≡ entry_of rows n
    → cursive_subtable d a rows (cut_with r s) ≡ from_entry d a rows o (cut_with r s)
cursive_is r n d a rows o s g at is e = ap (λ q. at_first (λ x. from_entry d a rows (entry_of rows x.number)) q (cut_with r s)) (first_item s.ahead g at) ∙ ap (λ (k : ℕ). from_entry d a rows (entry_of rows k) (cut_with r s)) (sym is) ∙ ap (λ q. from_entry d a rows q (cut_with r s)) (sym e)

pub no_entry : (r n : ℕ) (d : Direction) (a : ApplyContext) (rows : List (GlyphRow EntryExit)) (o : Option Anchor) (s : Sides) (g : hb_glyph_info_t) → slice_get s.ahead 0 ≡ Some g → n ≡ g.glyph_id → o ≡ entry_of rows n → o ≡ None
    → IsPerformed (cursive_subtable d a rows (cut_with r s)) false r r s s
no_entry r n d a rows o s g at is e none = passes_nothing r s (cursive_subtable d a rows (cut_with r s)) (cursive_is r n d a rows o s g at is e ∙ ap (λ q. from_entry d a rows q (cut_with r s)) none)

pub entered : (r n : ℕ) (d : Direction) (a : ApplyContext) (rows : List (GlyphRow EntryExit)) (o : Option Anchor) (entry : Anchor) (found : Result ℕ ℕ) (acted : Bool) (s new : Sides) (g : hb_glyph_info_t) → slice_get s.ahead 0 ≡ Some g → n ≡ g.glyph_id → o ≡ entry_of rows n → o ≡ Some entry
    → found ≡ item_before a (cut_of s) → IsPerformed (with_found (on_exit d a rows entry) found (cut_with r s)) acted r r s new → IsPerformed (cursive_subtable d a rows (cut_with r s)) acted r r s new
entered r n d a rows o entry found acted s new g at is e some f done =
    subst (λ (q : Outcome). IsPerformed q acted r r s new) (sym (cursive_is r n d a rows o s g at is e ∙ ap (λ q. from_entry d a rows q (cut_with r s)) some ∙ ap (λ q. with_found (on_exit d a rows entry) q (cut_with r s)) (sym f))) done
