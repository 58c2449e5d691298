use Rattle.std.proofs.Common.{◌≡◌, ◌≤◌, ◌<◌, ◌-◌, ◌==◌, ◌||◌, ◌∷◌, Bool, if◌then◌else◌, ap, subst, ◌∙◌, arith, get_or, length, slice_get}
use Rattle.std.proofs.lemmas.Option.{slice_get-get_or}
use Rattle.buffer_glyphs.specs.Items.{item_of, strip}
use Rattle.buffer_core.specs.Settings.{next_lig_id}
use Rattle.buffer_core.specs.Sides.{Sides}
use Rattle.buffer_stages.specs.Actions.{Cut}
use Rattle.layout_gsub.specs.Ligating.{after_components, following_items, items_at, last_index, passed_items}
use Rattle.layout_gsub.specs.Uniting.{IsMerged}
use Rattle.layout_gsub.proofs.LigatureMade.{after_is, after_small, first_is, last_ends, ligature_made, number_is, passed_is}
use Rattle.layout_gsub.proofs.ligate.ligate_input.Goals as goal

pub new-components-requires-clause-last : goal.new-components-requires-clause-last
new-components-requires-clause-last c = let last = last_ends 0 c.args.others.now in let ends = c.requires.end in omega (arith, last, ends)

pub returns-clause-made : goal.returns-clause-made
returns-clause-made c = λ r.
    let s = c.args.buffer.now in
    let a = c.merge_components-lig_id.new.buffer in
    let b = c.unite_components.new.buffer in
    let new = c.renumber_behind.new.buffer in
    let others = c.args.others.now in
    let end = c.args.end in
    let gdef = c.args.face.now.gdef in
    let p = c.new-components.result in
    let scratch_flags = c.new-components.ensures in
    let id = c.merge_components-lig_id.result in
    let g = c.cur.result.now in
    let x = item_of c.ligature_info-first.result in
    let ps = items_at (0 ∷ others) (strip s.ahead) in
    let last = last_ends 0 others in
    let ends = c.requires.end in
    let within = c.requires.within in
    let small : c.args.glyph ≤ 65535 = omega arith in
    let before : end - 1 < length s.ahead = omega (arith, last, ends, within) in
    let h = get_or s.ahead (end - 1) g in
    let at : slice_get s.ahead (end - 1) ≡ _ = slice_get-get_or s.ahead (end - 1) g before in
    let id-is = number_is id s.lig_id p.have_own_number ps scratch_flags.own c.merge_components-lig_id.ensures.given in
    let P : Bool → Type 0 = λ own. IsMerged end (if own then next_lig_id s.lig_id else s.lig_id) s a in
    let merged = subst P scratch_flags.own c.merge_components-lig_id.ensures.merged in
    let ahead-a = ap (λ (t : Cut). t.rest) merged.cut_is in
    let first = first_is gdef c.args.glyph id p.component_count s.lig_id p.have_own_number ps x (item_of g) scratch_flags.own scratch_flags.count id-is c.ligature_info-first.ensures.item in
    let passed = passed_items p.have_own_number id c.from.result p.first_components 1 others (strip a.ahead) in
    let is-passed = passed_is id c.from.result p.first_components s.lig_id p.have_own_number others s a scratch_flags.own id-is c.from.ensures scratch_flags.first ahead-a in
    let behind = if p.are_marks || (p.last_lig_id == 0) then strip b.ahead else following_items id p.last_lig_id p.component_count p.last_components (strip b.ahead) in
    let tells = scratch_flags.last h at in
    let is-ahead = after_is p.are_marks p.last_lig_id p.last_components p.component_count id end others s h (strip b.ahead) ends at scratch_flags.marks scratch_flags.count tells.0 tells.1 ∙ ap (λ n. after_components ps n (slice_get (strip s.ahead) (last_index (0 ∷ others))) (strip b.ahead)) id-is in
    ligature_made gdef c.args.glyph end r others x passed behind s a b new g small ends within c.cur.ensures merged first is-passed c.in_ok-unite_components.ensures.united is-ahead
    (λ k. after_small (p.are_marks || (p.last_lig_id == 0)) id p.last_lig_id p.component_count p.last_components (strip b.ahead) ∙ k) c.renumber_behind.ensures

pub returns-clause-apart : goal.returns-clause-apart
returns-clause-apart c =
    ap (λ (t : Sides). t.is_apart) c.renumber_behind.ensures.others ∙ ap (λ (t : Sides). t.is_apart) c.in_ok-unite_components.ensures.united.others ∙ c.merge_components-lig_id.ensures.apart
