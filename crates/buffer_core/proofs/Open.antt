-- A buffer whose output is open: the front of its list, before what is ahead of the cursor.
use Rattle.std.specs.Bool.{OnFalse}
use Rattle.std.specs.Global.{Vec}
use Rattle.std.specs.Prelude.{slice_get}
use Rattle.std.proofs.Common.{ℕ, ◌≡◌, ◌≢◌, ◌≤◌, ◌<◌, ◌+◌, ◌-◌, ◌++◌, ◌||◌, Bool, true, false, nat_lt, min, zero, suc, Option, None, Some, List, [], ◌∷◌, length, take, drop, get_or, refl, arith, ap, sym, subst, ◌∙◌, append_assoc}
use Rattle.std.proofs.lemmas.Bool.Decides.{nat_tests}
use Rattle.std.proofs.lemmas.Grind.{common_steps}
use Rattle.std.proofs.lemmas.List.{map-append, take-map, drop-map, drop-drop, drop_more, take-append-drop, take-append-le, drop-append-le, length-take-le, length-append, length-drop, length-map, take-take}
use Rattle.buffer_glyphs.specs.declared.info.hb_glyph_info_t.{hb_glyph_info_t}
use Rattle.buffer_glyphs.specs.declared.position.GlyphPosition.{GlyphPosition}
use Rattle.buffer_glyphs.specs.declared.level.BufferClusterLevel.{BufferClusterLevel}
use Rattle.buffer_glyphs.specs.Items.{clusters}
use Rattle.buffer_glyphs.proofs.Lists.{take_one}
use Rattle.buffer_glyphs.specs.Parts.{first_of, last_of, or, range_of}
use Rattle.buffer_glyphs.specs.Glyphs.{glyphs_merged_at, beside_merged, is_marked_at}
use Rattle.buffer_glyphs.specs.Lemmas.Glyphs.{length_beside, length_merged_at}
use Rattle.buffer_glyphs.specs.Replacements.{glyph_numbered, numbered_copies}
use Rattle.buffer_lists.specs.Copies.{sides_replaced, with_copies}
use Rattle.buffer_glyphs.specs.Lemmas.Handed.{sides_front_count}
use Rattle.buffer_lists.specs.declared.order.ClusterOrder.{ClusterOrder}
use Rattle.buffer_lists.specs.declared.order.KnownOrder.{KnownOrder}
use Rattle.buffer_lists.specs.Known.{HasOrder, known_clusters}
use Rattle.buffer_core.specs.declared.buffer.hb_buffer_t.TheInside.{Inside}
use Rattle.buffer_core.specs.Inside.{sides_of, IsSound}
use Rattle.buffer_core.specs.Merging.{with_has_glyph_flags, with_output_glyph, with_output_info, with_replaced, with_replaced_glyph}
use Rattle.buffer_core.specs.Moving.{after_move_to}
use Rattle.buffer_core.specs.Sides.{after_next_glyphs, after_sync, zero_positions, requests_breaks}
use Rattle.buffer_core.proofs.Kept.{take_on}
use Rattle.buffer_core.proofs.Merged.{merged_sides, same_marks}
use Rattle.buffer_core.proofs.Changed.{front_before as front_within, front_long}

pub front_limit : (b : Inside) → IsSound b → b.have_output ≡ true → b.out_len ≤ b.max_len
front_limit b s h = rw h at s.output_within

-- clusters of both ends of a list
both_ends : (m n : ℕ) (gs : List hb_glyph_info_t) → take m (clusters gs) ++ drop n (clusters gs) ≡ clusters (take m gs) ++ clusters (drop n gs)
both_ends m n gs = ap (λ ns. ns ++ drop n (clusters gs)) (take-map (λ (g : hb_glyph_info_t). g.cluster) m gs) ∙ ap (λ ns. clusters (take m gs) ++ ns) (drop-map (λ (g : hb_glyph_info_t). g.cluster) n gs)

-- what is known once a lent glyph is back
pub settled_open : (b : Inside) (o : KnownOrder) → IsSound b → b.have_output ≡ true
    → ((m n : ℕ) → HasOrder b.order.known (take m (known_clusters b.order.lent (clusters b.info.items)) ++ drop n (known_clusters b.order.lent (clusters b.info.items))) → HasOrder o (take m (clusters b.info.items) ++ drop n (clusters b.info.items)))
    → HasOrder o (clusters (take b.out_len b.info.items) ++ clusters (drop b.idx b.info.items))
settled_open b o s h settles = subst (HasOrder o) (both_ends b.out_len b.idx b.info.items) (settles b.out_len b.idx (rw h at s.ordered))

-- other glyphs, as many as before, cut elsewhere
pub sound_over : (b : Inside) (info : Vec hb_glyph_info_t) (order : ClusterOrder) (front idx flags : ℕ) → IsSound b → b.have_output ≡ true
    → length info.items ≡ length b.info.items → front ≤ idx → idx ≤ length b.info.items → b.gap ≤ idx → front ≤ b.max_len → order.lent ≡ None → HasOrder order.known (clusters (take front info.items) ++ clusters (drop idx info.items))
    → IsSound (record b { info = info; out_len = front; idx = idx; order = order; scratch_flags = flags })
sound_over b info order front idx flags s h long le within gap room back o = record {
  cursor = rw long within;
  opened = gap;
  unopened = s.unopened;
  input_within = rw long s.input_within;
  output_within = rw h room;
  out_len = rw h le;
  together = rw h tt;
  placed = rw h tt;
  counted = rw long s.counted;
  cleared = s.cleared;
  ordered = rw (h, back) (subst (HasOrder order.known) (sym (both_ends front idx info.items)) o);
}

-- the input moved on by n places
abbrev pub moved_on : Inside → Vec hb_glyph_info_t → ClusterOrder → ℕ → Bool → Inside
moved_on b info order n apart = record b { info = info; order = order; idx = b.idx + n; gap = b.gap + n; is_apart = apart }

pub sound_moved : (b : Inside) (info : Vec hb_glyph_info_t) (order : ClusterOrder) (n : ℕ) (apart : Bool) → apart ≡ (b.is_apart || nat_lt 0 n) → IsSound b → b.have_output ≡ true
    → take b.out_len info.items ≡ take b.out_len b.info.items → drop (b.idx + n) info.items ≡ drop b.idx b.info.items → length info.items ≡ length b.info.items + n
    → order.lent ≡ None → HasOrder order.known (clusters (take b.out_len b.info.items) ++ clusters (drop b.idx b.info.items)) → IsSound (moved_on b info order n apart)
sound_moved b info order n apart left s h out in_ long back o = record {
  cursor = omega (arith, long, s.cursor);
  opened = omega (arith, s.opened);
  unopened = rw left (none b.is_apart n b.gap s.unopened);
  input_within = omega (arith, long, s.input_within);
  output_within = s.output_within;
  out_len = let le = front_within b s h in rw h (omega (arith, le));
  together = rw h tt;
  placed = rw h tt;
  counted = rw left (count b.is_apart n (length b.pos.items) (length b.info.items) (length info.items) long s.counted);
  cleared = s.cleared;
  ordered = rw (h, back) (subst (HasOrder order.known) (sym (both_ends b.out_len (b.idx + n) info.items)) (rw (out, in_) o));
}
  where
    none : (apart : Bool) (n gap : ℕ) → OnFalse apart (gap ≡ 0) → OnFalse (apart || nat_lt 0 n) (gap + n ≡ 0)
    none true n gap e = tt
    none false zero gap e = omega (arith, e)
    none false (suc n) gap e = let lt : nat_lt 0 (suc n) ≡ true = grind (arith, nat_tests) in rw lt tt

    count : (apart : Bool) (n k m l : ℕ) → l ≡ m + n → OnFalse apart (k ≡ m) → OnFalse (apart || nat_lt 0 n) (k ≡ l)
    count true n k m l long e = tt
    count false zero k m l long e = omega (arith, long, e)
    count false (suc n) k m l long e = let lt : nat_lt 0 (suc n) ≡ true = grind (arith, nat_tests) in rw lt tt

pub moved_view : (b : Inside) (info : Vec hb_glyph_info_t) (order : ClusterOrder) (n : ℕ) (apart : Bool) → b.have_output ≡ true
    → take b.out_len info.items ≡ take b.out_len b.info.items → drop (b.idx + n) info.items ≡ drop b.idx b.info.items
    → record (sides_of (moved_on b info order n apart)) { is_apart = b.is_apart } ≡ sides_of b
moved_view b info order n apart h out in_ =
    let read : b.idx + n - (b.gap + n) ≡ b.idx - b.gap = omega arith in
    rw (h, out, in_, read) refl

-- the same glyphs, cut elsewhere
pub order_same : (o : KnownOrder) (front back new_front new_back : List hb_glyph_info_t) → new_front ++ new_back ≡ front ++ back → HasOrder o (clusters front ++ clusters back) → HasOrder o (clusters new_front ++ clusters new_back)
order_same o front back new_front new_back e h =
    subst (HasOrder o) (sym (map-append (λ (g : hb_glyph_info_t). g.cluster) front back) ∙ ap clusters (sym e) ∙ map-append (λ (g : hb_glyph_info_t). g.cluster) new_front new_back) h

-- glyphs that passed from the input to the output
later : (idx gap k : ℕ) → gap ≤ idx → idx + k - gap ≡ idx - gap + k
later idx gap k le = omega (arith, le)

pub passed_view : (b : Inside) (info : Vec hb_glyph_info_t) (order : ClusterOrder) (k : ℕ) → b.have_output ≡ true → b.gap ≤ b.idx
    → take (b.out_len + k) info.items ≡ take b.out_len b.info.items ++ take k (drop b.idx b.info.items) → drop (b.idx + k) info.items ≡ drop (b.idx + k) b.info.items
    → sides_of (record b { info = info; out_len = b.out_len + k; idx = b.idx + k; order = order }) ≡ after_next_glyphs k (sides_of b)
passed_view b info order k h le o i = let read = later b.idx b.gap k le in rw (h, o, i, read, ← drop-drop k b.idx b.info.items) refl

pub order_passed : (o : KnownOrder) (gs new : List hb_glyph_info_t) (front idx k : ℕ) → take (front + k) new ≡ take front gs ++ take k (drop idx gs) → drop (idx + k) new ≡ drop (idx + k) gs
    → HasOrder o (clusters (take front gs) ++ clusters (drop idx gs)) → HasOrder o (clusters (take (front + k) new) ++ clusters (drop (idx + k) new))
order_passed o gs new front idx k out in_ h =
    let rest : drop (idx + k) new ≡ drop k (drop idx gs) = in_ ∙ sym (drop-drop k idx gs) in
    order_same o (take front gs) (drop idx gs) (take (front + k) new) (drop (idx + k) new)
    (ap (λ xs. xs ++ drop (idx + k) new) out ∙ ap (λ xs. (take front gs ++ take k (drop idx gs)) ++ xs) rest ∙ append_assoc (take front gs) (take k (drop idx gs)) (drop k (drop idx gs)) ∙ ap (λ xs. take front gs ++ xs) (take-append-drop k (drop idx gs))) h

-- the same where each is in its place already
pub along_view : (b : Inside) (k : ℕ) → b.have_output ≡ true → b.gap ≤ b.idx → b.out_len ≡ b.idx
    → sides_of (record b { out_len = b.out_len + k; idx = b.idx + k }) ≡ after_next_glyphs k (sides_of b)
along_view b k h le e =
    passed_view b b.info b.order k h le (take_on b.info.items b.out_len k ∙ ap (λ n. take b.out_len b.info.items ++ take k (drop n b.info.items)) e) refl

pub backed_sound : (b : Inside) (info : Vec hb_glyph_info_t) (order : ClusterOrder) (i gap : ℕ) → IsSound b → b.have_output ≡ true → i ≤ b.out_len → gap ≡ min b.gap (b.idx - (b.out_len - i)) → length (drop b.idx b.info.items) + (length (take b.out_len b.info.items) - i) ≤ b.max_len
    → length info.items ≡ length b.info.items → order.lent ≡ None → HasOrder order.known (clusters (take i info.items) ++ clusters (drop (b.idx - (b.out_len - i)) info.items))
    → IsSound (record b { info = info; out_len = i; idx = b.idx - (b.out_len - i); gap = gap; order = order })
backed_sound b info order i gap s h le least fits long back o =
    let ordered = front_within b s h in
    let limit = front_limit b s h in
    let wide = front_long b s h in
    let rest = length-drop b.idx b.info.items in
    let at = b.idx - (b.out_len - i) in
    record {
      cursor = omega (arith, long, s.cursor);
      opened = rw least (below b.gap at);
      unopened = rw least (none b.is_apart b.gap at s.unopened);
      input_within = rw (least, long) (room b.gap at (length b.info.items) b.max_len s.input_within (omega (arith, fits, wide, rest, ordered, le, s.cursor)));
      output_within = rw h (omega (arith, le, limit));
      out_len = rw h (omega (arith, ordered, le));
      together = rw h tt;
      placed = rw h tt;
      counted = rw long s.counted;
      cleared = s.cleared;
      ordered = rw (h, back) (subst (HasOrder order.known) (sym (both_ends i at info.items)) o);
    }
  where
    below : (m n : ℕ) → min m n ≤ n
    below m n = grind (arith, nat_tests, common_steps)

    none : (apart : Bool) (m n : ℕ) → OnFalse apart (m ≡ 0) → OnFalse apart (min m n ≡ 0)
    none true m n e = tt
    none false m n e = grind (arith, nat_tests, common_steps, e)

    room : (m n l limit : ℕ) → l ≤ limit + m → l ≤ limit + n → l ≤ limit + min m n
    room m n l limit a b = grind (arith, nat_tests, common_steps, a, b)

pub order_backed : (o : KnownOrder) (gs new : List hb_glyph_info_t) (front idx i at : ℕ) → i ≤ front → take i new ≡ take i gs → drop at new ≡ drop i (take front gs) ++ drop idx gs
    → HasOrder o (clusters (take front gs) ++ clusters (drop idx gs)) → HasOrder o (clusters (take i new) ++ clusters (drop at new))
order_backed o gs new front idx i at le out in_ h =
    let same : take i new ≡ take i (take front gs) = out ∙ sym (take-take i front gs le) in
    order_same o (take front gs) (drop idx gs) (take i new) (drop at new)
    (ap (λ xs. xs ++ drop at new) same ∙ ap (λ xs. take i (take front gs) ++ xs) in_ ∙ sym (append_assoc (take i (take front gs)) (drop i (take front gs)) (drop idx gs)) ∙ ap (λ xs. xs ++ drop idx gs) (take-append-drop i (take front gs))) h

pub order_joined : (o : KnownOrder) (gs new : List hb_glyph_info_t) (front idx : ℕ) → new ≡ take front gs ++ drop idx gs → HasOrder o (clusters (take front gs) ++ clusters (drop idx gs)) → HasOrder o (clusters new)
order_joined o gs new front idx e h = subst (HasOrder o) (sym (map-append (λ (g : hb_glyph_info_t). g.cluster) (take front gs) (drop idx gs)) ∙ ap clusters (sym e)) h

-- the output is apart once the input has moved on for more glyphs than were read
pub has_left : (apart : Bool) (gap idx n more taken front long : ℕ) → OnFalse apart (gap ≡ 0) → front ≤ idx → nat_lt 0 n ≡ nat_lt idx (front + (more - taken)) → long ≡ front + more → (apart || nat_lt 0 n) ≡ (apart || nat_lt (idx + n - (gap + n) + taken) long)
has_left true gap idx n more taken front long none ordered moved e = refl
has_left false gap idx n more taken front long none ordered moved e = moved ∙ past idx gap n more taken front long none ordered e
  where
    past : (idx gap n more taken front long : ℕ) → gap ≡ 0 → front ≤ idx → long ≡ front + more → nat_lt idx (front + (more - taken)) ≡ nat_lt (idx + n - (gap + n) + taken) long
    past idx gap n more taken front long none ordered e = grind (arith, nat_tests, common_steps, none, ordered, e)

-- as many copies as numbers, where there is a glyph that they are copies of
last_there : (hs : List hb_glyph_info_t) (n : ℕ) → n < length hs → slice_get hs n ≢ None
last_there [] n lt e = absurd (omega (arith, lt))
last_there (h ∷ hs) zero lt e = cc
last_there (h ∷ hs) (suc n) lt e = last_there hs n (omega (arith, lt)) e

some_model : (o : Option hb_glyph_info_t) (numbers : List ℕ) → o ≢ None → length (numbered_copies glyph_numbered o numbers) ≡ length numbers
some_model None numbers some = absurd (some refl)
some_model (Some g) numbers some = length-map numbers (glyph_numbered g)

copies_long : (ahead behind : List hb_glyph_info_t) (numbers : List ℕ) → length behind + length ahead ≢ 0 → length (numbered_copies glyph_numbered (or (first_of ahead) (last_of behind)) numbers) ≡ length numbers
copies_long (g ∷ gs) behind numbers some = length-map numbers (glyph_numbered g)
copies_long [] [] numbers some = absurd (some refl)
copies_long [] (h ∷ hs) numbers some = some_model (last_of (h ∷ hs)) numbers (last_there (h ∷ hs) (length (h ∷ hs) - 1) (omega arith))

pub end_of_copies : (ahead behind : List hb_glyph_info_t) (numbers : List ℕ) → length (behind ++ ahead) ≢ 0 → length (with_copies numbers ahead behind) ≡ length behind + length numbers
end_of_copies ahead behind numbers some =
    length-append behind (numbered_copies glyph_numbered (or (first_of ahead) (last_of behind)) numbers)
    ∙ ap (λ k. length behind + k) (copies_long ahead behind numbers (λ e. some (length-append behind ahead ∙ e)))

pub end_of_replaced : (breaks : Bool) (level : BufferClusterLevel) (taken : ℕ) (numbers : List ℕ) (behind ahead : List hb_glyph_info_t) → length (behind ++ ahead) ≢ 0
    → length (sides_replaced breaks taken numbers (glyphs_merged_at level 0 taken ahead) (beside_merged level (range_of 0 taken (clusters ahead)) behind)).front ≡ length behind + length numbers
end_of_replaced breaks level taken numbers behind ahead some =
    let merged = beside_merged level (range_of 0 taken (clusters ahead)) behind in
    let rest = glyphs_merged_at level 0 taken ahead in
    let wide : length merged ≡ length behind = length_beside level (range_of 0 taken (clusters ahead)) behind in
    let long : length rest ≡ length ahead = length_merged_at level 0 taken ahead (omega arith) in
    let all : length (merged ++ rest) ≡ length (behind ++ ahead) = length-append merged rest ∙ ap (λ k. k + length rest) wide ∙ ap (λ k. length behind + k) long ∙ sym (length-append behind ahead) in
    sides_front_count breaks (take taken rest) (record { front = with_copies numbers rest merged; back = drop taken rest }) ∙ end_of_copies rest merged numbers (λ e. some (sym all ∙ e)) ∙ ap (λ k. k + length numbers) wide

-- copies that were put after the output
pub copies_view : (b : Inside) (info : Vec hb_glyph_info_t) (front n : ℕ) (apart : Bool) → b.have_output ≡ true → b.is_apart ≡ (apart || nat_lt (b.idx - b.gap + 0) front) → length (take front info.items) ≡ front
    → take front info.items ≡ with_copies (n ∷ []) (drop b.idx b.info.items) (take b.out_len b.info.items) → drop b.idx info.items ≡ drop b.idx b.info.items
    → sides_of (record b { info = info; out_len = front }) ≡ with_output_glyph n (record (sides_of b) { is_apart = apart })
copies_view b info front n apart h left long o i =
    let count : front ≡ length (with_copies (n ∷ []) (drop b.idx b.info.items) (take b.out_len b.info.items)) = sym long ∙ ap length o in
    let read : b.idx - b.gap + 0 ≡ b.idx - b.gap = omega arith in
    rw (h, left ∙ ap (λ k. apart || nat_lt k front) read ∙ ap (λ k. apart || nat_lt (b.idx - b.gap) k) count, o, i) refl

pub order_put : (o : KnownOrder) (front back new : List hb_glyph_info_t) (g : hb_glyph_info_t) → new ≡ front ++ g ∷ [] → HasOrder o (clusters front ++ g.cluster ∷ clusters back) → HasOrder o (clusters new ++ clusters back)
order_put o front back new g e h =
    subst (HasOrder o) (sym (ap (λ ns. ns ++ clusters back) (ap clusters e ∙ map-append (λ (k : hb_glyph_info_t). k.cluster) front (g ∷ [])) ∙ append_assoc (clusters front) (g.cluster ∷ []) (clusters back))) h

pub order_numbered : (o : KnownOrder) (gs new : List hb_glyph_info_t) (front idx : ℕ) (g d : hb_glyph_info_t) → idx < length gs → g.cluster ≡ (get_or gs idx d).cluster → take (front + 1) new ≡ take front gs ++ g ∷ [] → drop (idx + 1) new ≡ drop (idx + 1) gs
    → HasOrder o (clusters (take front gs) ++ clusters (drop idx gs)) → HasOrder o (clusters (take (front + 1) new) ++ clusters (drop (idx + 1) new))
order_numbered o gs new front idx g d lt same out in_ h =
    let first : clusters (drop idx gs) ≡ g.cluster ∷ clusters (drop (idx + 1) new) = ap clusters (drop_more gs idx d lt) ∙ ap (λ c. c ∷ clusters (drop (idx + 1) gs)) (sym same) ∙ ap (λ hs. g.cluster ∷ clusters hs) (sym in_) in
    order_put o (take front gs) (drop (idx + 1) new) (take (front + 1) new) g out (subst (λ ns. HasOrder o (clusters (take front gs) ++ ns)) first h)

-- a replacement
pub replaced_view : (breaks : Bool) (b : Inside) (info : Vec hb_glyph_info_t) (order : ClusterOrder) (front taken flags : ℕ) (numbers : List ℕ) (apart : Bool) → breaks ≡ requests_breaks (sides_of b) → b.have_output ≡ true → b.gap ≤ b.idx → b.is_apart ≡ (apart || nat_lt (b.idx - b.gap + taken) front) → length (take front info.items) ≡ front
    → drop (b.idx + taken) info.items ≡ (sides_replaced breaks taken numbers (glyphs_merged_at b.cluster_level 0 taken (drop b.idx b.info.items)) (beside_merged b.cluster_level (range_of 0 taken (clusters (drop b.idx b.info.items))) (take b.out_len b.info.items))).back
    → take front info.items ≡ (sides_replaced breaks taken numbers (glyphs_merged_at b.cluster_level 0 taken (drop b.idx b.info.items)) (beside_merged b.cluster_level (range_of 0 taken (clusters (drop b.idx b.info.items))) (take b.out_len b.info.items))).front
    → flags ≡ with_has_glyph_flags (is_marked_at b.cluster_level 0 taken (clusters (drop b.idx b.info.items))) b.scratch_flags
    → sides_of (record b { info = info; out_len = front; idx = b.idx + taken; scratch_flags = flags; order = order }) ≡ with_replaced taken numbers (record (sides_of b) { is_apart = apart })
replaced_view breaks b info order front taken flags numbers apart asked h le left long i o f =
    let out = take b.out_len b.info.items in
    let ahead = drop b.idx b.info.items in
    let m = merged_sides b.cluster_level 0 taken (length out) (length out + taken) out ahead (omega arith) refl in
    let marks = f ∙ ap (λ any. with_has_glyph_flags any b.scratch_flags) (same_marks b.cluster_level 0 taken (length out) (length out + taken) (clusters ahead) (clusters (out ++ ahead)) m.range_is) in
    let read = later b.idx b.gap taken le in
    let rest = glyphs_merged_at b.cluster_level 0 taken ahead in
    let copied = with_copies numbers rest (beside_merged b.cluster_level (range_of 0 taken (clusters ahead)) out) in
    let count = sym long ∙ ap length o ∙ sides_front_count breaks (take taken rest) (record { front = copied; back = drop taken rest }) in
    rw (h, left ∙ ap (λ k. apart || nat_lt (b.idx - b.gap + taken) k) count, o, i, asked, read, ← m.behind_is, ← m.ahead_is, marks) refl
