-- What a search finds next, whatever its item's test is.
use Rattle.std.proofs.Common.{ℕ, ◌≡◌, ◌+◌, Bool, true, false, List, length, slice_get, Some, None, refl, sym, subst, ap, ◌∙◌}
use Rattle.std.specs.Prelude.{◌&&◌}
use Rattle.buffer_glyphs.specs.declared.info.hb_glyph_info_t.{hb_glyph_info_t}
use Rattle.buffer_glyphs.specs.Items.{Item, item_of, strip}
use Rattle.buffer_glyphs.specs.PropertyWords.{is_default_ignorable}
use Rattle.buffer_stages.specs.Masks.{shares_mask}
use Rattle.layout_match.specs.Applied.{ApplyContext, context_search, own_search, own_syllable}
use Rattle.layout_match.specs.declared.search.match_t.TheVariants.{NOT_MATCH, SKIP}
use Rattle.layout_match.specs.declared.next_glyph.NextGlyph.{NextGlyph}
use Rattle.layout_match.specs.declared.next_glyph.NextGlyph.TheVariants.{Missing, Found, Unknown}
use Rattle.layout_match.specs.Matches.{by_answer, nearest_from}
use Rattle.layout_match.specs.Next.{Decides, IsAdmitted, IsNext}
use Rattle.layout_match.specs.Searches.{Search, answer, has_mask, is_in_syllable, is_left_out, is_skippable, is_wanted}
use Rattle.layout_match.proofs.Lemmas.Nearest.{ended_there, nearest_there, passed_there}
use Rattle.buffer_stages.proofs.Reversed.{got_strip as item_there}
use Rattle.buffer_facts.proofs.Truth.{lacks_second, lacks_first}

not_matched : (s : Search) (test : Item → Bool) (x : Item) → is_left_out s.props s.sets x ≡ false → is_wanted s test x ≡ false → is_skippable s x ≡ false → answer s test x ≡ NOT_MATCH
not_matched s test x admitted other shown = rw (admitted, other, shown) refl

pub untested : (p q t : Bool) → t ≡ false → (p && q && t) ≡ false
untested true true t e = e
untested true false t e = refl
untested false q t e = refl

lacking : (p q t : Bool) → (p && q) ≡ false → (p && q && t) ≡ false
lacking true true t e = cc
lacking true false t e = refl
lacking false q t e = refl

pub decides_unknown : (s : Search) (x : Item) → Decides Unknown s x
decides_unknown s x test e = cc

pub decides_found : (s : Search) (info : hb_glyph_info_t) → is_skippable s (item_of info) ≡ false → Decides (Found info) s (item_of info)
decides_found s info shown test e admitted =
    let x = item_of info in
    let other : is_wanted s test x ≡ false = untested (has_mask s.mask x) (is_in_syllable s.syllable x) (test x) e in
    not_matched s test x admitted other shown

pub decides_missing : (s : Search) (x : Item) → is_skippable s x ≡ false → (has_mask s.mask x && is_in_syllable s.syllable x) ≡ false → Decides Missing s x
decides_missing s x shown lacks test e admitted =
    let other : is_wanted s test x ≡ false = lacking (has_mask s.mask x) (is_in_syllable s.syllable x) (test x) lacks in
    not_matched s test x admitted other shown

-- ---- the searches at the cursor, for an item that is visible

pub visible_shown : (s : Search) (x : Item) → is_default_ignorable x ≡ false → is_skippable s x ≡ false
visible_shown s x seen = rw seen refl

-- what a search tells, by its parameters
pub input_unseen : (next : NextGlyph) (s own : Search) (x : Item) → s ≡ own → Decides next s x → Decides next own x
input_unseen next s own x is decides = subst (λ t. Decides next t x) is decides

pub lookahead_unseen : (next : NextGlyph) (s context : Search) (x : Item) → s ≡ context → Decides next s x → Decides next context x
lookahead_unseen next s context x is decides = subst (λ t. Decides next t x) is decides

pub input_visible : (a : ApplyContext) (rest : List Item) (info : hb_glyph_info_t) → is_default_ignorable (item_of info) ≡ false → Decides (Found info) (own_search a rest) (item_of info)
input_visible a rest info seen = decides_found (own_search a rest) info (visible_shown (own_search a rest) (item_of info) seen)

pub lookahead_visible : (a : ApplyContext) (rest : List Item) (info : hb_glyph_info_t) → is_default_ignorable (item_of info) ≡ false → Decides (Found info) (context_search a rest) (item_of info)
lookahead_visible a rest info seen = decides_found (context_search a rest) info (visible_shown (context_search a rest) (item_of info) seen)

-- an item of another syllable
pub input_elsewhere : (a : ApplyContext) (rest : List Item) (x : Item) → is_default_ignorable x ≡ false → is_in_syllable (own_syllable a rest) x ≡ false → Decides Missing (own_search a rest) x
input_elsewhere a rest x seen out = decides_missing (own_search a rest) x (visible_shown (own_search a rest) x seen) (lacks_second (has_mask (Some a.mask) x) (is_in_syllable (own_syllable a rest) x) out)

pub lookahead_elsewhere : (a : ApplyContext) (rest : List Item) (x : Item) → is_default_ignorable x ≡ false → is_in_syllable (own_syllable a rest) x ≡ false → Decides Missing (context_search a rest) x
lookahead_elsewhere a rest x seen out = decides_missing (context_search a rest) x (visible_shown (context_search a rest) x seen) out

-- an item without a bit of the lookup's mask
pub input_unmasked : (a : ApplyContext) (rest : List Item) (x : Item) → is_default_ignorable x ≡ false → shares_mask a.mask x.mask ≡ false → Decides Missing (own_search a rest) x
input_unmasked a rest x seen none = decides_missing (own_search a rest) x (visible_shown (own_search a rest) x seen) (lacks_first (has_mask (Some a.mask) x) (is_in_syllable (own_syllable a rest) x) none)

-- ---- the first item that the lookup flag admits

left_out : (s : Search) (test : Item → Bool) (props : ℕ) (sets : List (List ℕ)) (x : Item) → s.props ≡ props → s.sets ≡ sets → is_left_out props sets x ≡ true → SKIP ≡ answer s test x
left_out s test props sets x p q out = sym (rw (p, q, out) refl)

-- a search goes on from an item to another
abbrev pub GoesOn : ℕ → List (List ℕ) → ℕ → ℕ → List Item → Type 0
GoesOn props sets from to xs = (s : Search) (test : Item → Bool) → s.props ≡ props → s.sets ≡ sets → nearest_from (answer s test) from xs ≡ nearest_from (answer s test) to xs

pub goes_on : (props : ℕ) (sets : List (List ℕ)) (from : ℕ) (xs : List Item) → GoesOn props sets from from xs
goes_on props sets from xs s test p q = refl

pub goes_past : (props : ℕ) (sets : List (List ℕ)) (from at : ℕ) (gs : List hb_glyph_info_t) (g : hb_glyph_info_t) → slice_get gs at ≡ Some g → is_left_out props sets (item_of g) ≡ true → GoesOn props sets from at (strip gs) → GoesOn props sets from (at + 1) (strip gs)
goes_past props sets from at gs g there out on s test p q = on s test p q ∙ passed_there (answer s test) at gs g SKIP there (left_out s test props sets (item_of g) p q out) refl

pub admitted_there : (props : ℕ) (sets : List (List ℕ)) (from at : ℕ) (gs : List hb_glyph_info_t) (g : hb_glyph_info_t) → slice_get gs at ≡ Some g → is_left_out props sets (item_of g) ≡ false → GoesOn props sets from at (strip gs) → IsAdmitted (Some g) props sets from (strip gs)
admitted_there props sets from at gs g there admitted on = (
  admitted,
  λ s test p q. (at, on s test p q ∙ nearest_there (answer s test) at (strip gs) (item_of g) (answer s test (item_of g)) (item_there gs at g there) refl),
)

pub none_admitted : (props : ℕ) (sets : List (List ℕ)) (from at : ℕ) (gs : List hb_glyph_info_t) → length gs ≡ at → GoesOn props sets from at (strip gs) → IsAdmitted None props sets from (strip gs)
none_admitted props sets from at gs e on s test p q = (at, on s test p q ∙ ended_there (answer s test) at gs e)

-- ---- what is told

pub nothing_told : (s : Search) (from : ℕ) (xs : List Item) → IsNext Unknown s from xs
nothing_told s from xs test e = cc

pub found_told : (next : NextGlyph) (s : Search) (from : ℕ) (xs : List Item) (info : hb_glyph_info_t) → IsAdmitted (Some info) s.props s.sets from xs → Decides next s (item_of info) → IsNext next s from xs
found_told next s from xs info admitted decides test e =
    let there = admitted.1 s test refl refl in
    (there.0 + 1, there.1 ∙ ap (λ m. by_answer m there.0 (nearest_from (answer s test) (there.0 + 1) xs)) (decides test e admitted.0))

pub missing_told : (s : Search) (from : ℕ) (xs : List Item) → IsAdmitted None s.props s.sets from xs → IsNext Missing s from xs
missing_told s from xs none test e = none s test refl refl
