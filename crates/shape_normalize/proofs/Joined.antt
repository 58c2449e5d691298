-- A list that was walked in an open output, once that is the list.
use Rattle.std.proofs.Common.{ℕ, ◌≡◌, ◌≢◌, ◌≤◌, ◌<◌, ◌+◌, ◌&&◌, true, false, nat_le, [], ◌++◌, Ok, Err, length, refl, sym, ap, subst, ◌∙◌, arith}
use Rattle.std.specs.Prelude.{not}
use Rattle.std.proofs.lemmas.Bool.{and_parts, cond-true, cond-false}
use Rattle.std.proofs.lemmas.Bool.Decides.{nat_tests}
use Rattle.std.proofs.lemmas.List.{append-nil, map-append, length-map, length-replicate}
use Rattle.buffer_glyphs.specs.declared.cause.ShapeCause.{ShapeCause}
use Rattle.buffer_glyphs.specs.declared.cause.ShapeCause.TheVariants.{OutOfMemory, TooLong}
use Rattle.buffer_glyphs.specs.Items.{item_of, strip, zero_position}
use Rattle.buffer_core.specs.Readings.{Read, View}
use Rattle.buffer_core.specs.Sides.{Sides, all_glyphs, stage_flags, items_of, view_of, origins_by, settings_of, with_output, after_sync, fits_joined, has_room, zero_positions}
use Rattle.buffer_stages.specs.Ready.{IsReady}
use Rattle.buffer_glyphs.specs.Rewriting.{Arrangement}
use Rattle.buffer_stages.specs.Appending.{AppendsArrangement, RefusesRoomFor, with_arranged, within_limit}
use Rattle.shape_normalize.specs.Rounds.{IsArranged}
use Rattle.buffer_stages.specs.Lemmas.Shifts.{shift_none as all_shifted_none}

walked_items : (a : Arrangement) (s mid : Sides) → AppendsArrangement a [] (with_output s) mid → items_of mid ≡ a.items
walked_items a s mid b = map-append item_of mid.behind mid.ahead ∙ ap (λ xs. xs ++ strip mid.ahead) b.behind ∙ ap (λ xs. a.items ++ xs) b.ahead ∙ append-nil a.items

walked_count : (a : Arrangement) (s mid : Sides) → AppendsArrangement a [] (with_output s) mid → length (all_glyphs mid) ≡ length a.items
walked_count a s mid b = sym (length-map (all_glyphs mid) item_of) ∙ ap length (walked_items a s mid b)

walked_view : (a : Arrangement) (s mid : Sides) → AppendsArrangement a [] (with_output s) mid → view_of (after_sync mid) ≡ (with_arranged a (view_of s)).view
walked_view a s mid b =
    ap (λ xs. record { items = xs; positions = zero_positions (length (all_glyphs mid)); lig_id = mid.lig_id; max_ops = mid.max_ops; random = 1; max_len = mid.max_len; direction = mid.direction; scratch_flags = stage_flags mid.scratch_flags }) (walked_items a s mid b)
    ∙ ap (λ n. record { items = a.items; positions = zero_positions n; lig_id = mid.lig_id; max_ops = mid.max_ops; random = 1; max_len = mid.max_len; direction = mid.direction; scratch_flags = stage_flags mid.scratch_flags }) (walked_count a s mid b)
    ∙ ap (λ (f : Sides). record { items = a.items; positions = zero_positions (length a.items); lig_id = f.lig_id; max_ops = f.max_ops; random = 1; max_len = f.max_len; direction = f.direction; scratch_flags = f.scratch_flags }) b.frame

fits_pieces : (s : Sides) → fits_joined s ≡ true → length (all_glyphs s) ≤ s.max_len
fits_pieces s fits = let room = (and_parts (not s.has_refused) (has_room 0 s) fits).1 in grind (arith, nat_tests, room)

too_long : (s : Sides) → s.has_refused ≡ false → fits_joined s ≡ false → s.max_len < length (all_glyphs s)
too_long s unrefused full =
    let room : has_room 0 s ≡ false = sym (ap (λ t. not t && has_room 0 s) unrefused) ∙ full in
    grind (arith, nat_tests, room)

-- a reading that has room
pub has_limit : (n : ℕ) (r : Read) (v : View) → n ≤ v.max_len → within_limit n v r ≡ Ok r
has_limit n r v le = let t : nat_le n v.max_len ≡ true = grind (arith, nat_tests, le) in cond-true _ _ _ t

-- a reading that has none
pub past_limit : (n : ℕ) (r : Read) (v : View) (e : ShapeCause) → (e ≡ TooLong) × (v.max_len < n) → within_limit n v r ≡ Err e
past_limit n r v e over =
    let lt = over.1 in
    let t : nat_le n v.max_len ≡ false = grind (arith, nat_tests, lt) in
    cond-false _ _ _ t ∙ ap Err (sym over.0)

same_limit : (a : Arrangement) (s mid : Sides) → AppendsArrangement a [] (with_output s) mid → mid.max_len ≡ s.max_len
same_limit a s mid b = ap (λ (t : Sides). t.max_len) b.frame

-- a list that was walked is all of the buffer
pub list_arranged : (a : Arrangement) (s mid new : Sides) → IsReady s → AppendsArrangement a [] (with_output s) mid → new ≡ after_sync mid → IsArranged a s new
list_arranged a s mid new ready b after =
    subst (IsArranged a s) (sym after) (record {
      view = walked_view a s mid b;
      origins = b.happened ∙ ap (λ es. origins_by es s) (all_shifted_none a.events);
      settings = ap settings_of b.frame;
      ready = record {
        closed = refl;
        front = refl;
        unread = refl;
        placed = length-replicate (length (all_glyphs mid)) zero_position;
        unrefused = ap (λ (t : Sides). t.has_refused) b.frame ∙ ready.unrefused;
      };
    })

pub list_fits : (a : Arrangement) (s mid : Sides) → AppendsArrangement a [] (with_output s) mid → fits_joined mid ≡ true → length a.items ≤ s.max_len
list_fits a s mid b fits = let few = fits_pieces mid fits in omega (arith, few, walked_count a s mid b, same_limit a s mid b)

pub list_overfills : (a : Arrangement) (s : Sides) (e : ShapeCause) → RefusesRoomFor (length a.items) e (with_output s) → e ≢ OutOfMemory → (e ≡ TooLong) × (s.max_len < length a.items)
list_overfills a s e over some = let past = over some in let lt = past.1 in (past.0, omega (arith, lt))
