-- Rules of lookups keep the parts of a text.
use Rattle.std.proofs.Common.{ℕ, suc, ◌≡◌, ◌≤◌, ◌<◌, ◌+◌, ◌-◌, nat_lt, if◌then◌else◌, List, [], ◌∷◌, ◌++◌, Option, Some, None, length, map, take, drop, arith, refl, ap, sym, subst, ◌∙◌}
use Rattle.std.specs.Prelude.{slice_get, ◌%◌}
use Rattle.std.proofs.lemmas.List.{length-append}
use Rattle.std.proofs.lemmas.Bool.Decides.{nat_tests}
use Rattle.std.proofs.lemmas.Grind.{common_steps}
use Rattle.buffer_glyphs.specs.Levels.{InList}
use Rattle.buffer_glyphs.specs.Items.{Item, Position}
use Rattle.buffer_glyphs.specs.Parts.{first_of}
use Rattle.buffer_glyphs.specs.Events.{Event, Merge, Replace, Delete, Break, StrictBreak}
use Rattle.buffer_parts.specs.Counts.{ligature_deletions}
use Rattle.buffer_parts.specs.Keeping.{AreKept}
use Rattle.buffer_parts.specs.Lemmas.Keeping.{plain_is_kept, replacements_keep_parts, ligatures_keep_parts}
use Rattle.layout_face.specs.declared.parts.GlyphDefinition.{GlyphDefinition}
use Rattle.buffer_stages.specs.Actions.{Cut, whole, Passes, Acts, Action}
use Rattle.layout_match.specs.Applied.{own_search, next_random}
use Rattle.layout_match.specs.Matches.{answers_of, indices}
use Rattle.layout_contexts.specs.Nested.{each_nested, cut_after_match}
use Rattle.layout_tables.specs.declared.context.SequenceLookupRecord.{SequenceLookupRecord}
use Rattle.layout_gsub.specs.Alternates.{drawn_alternate}
use Rattle.layout_gsub.specs.Ligating.{ligature_substitution, component_deletions as gone}
use Rattle.layout_gsub.specs.Multiples.{component_items, multiple_substitution, multiplied_item, cut_with_multiple, neighbours_flagged, deletion}
use Rattle.layout_gsub.specs.Replacements.{single_substitution, cut_with_substitute, substituted_item}
use Rattle.layout_gsub.specs.Reverses.{cut_with_substitute_kept}
use Rattle.layout_gpos.specs.Anchors.{with_attachment_flag}
use Rattle.layout_gpos.specs.Moving.{cut_with_positions}
use Rattle.layout_gpos.proofs.Lemmas.Left.{past_left}
use Rattle.buffer_parts.specs.Rules.{OutcomeKeepsParts, RuleKeepsParts}
use Rattle.buffer_parts.proofs.Lemmas.Rules.{break_keeps, attempt_keeps, pass_keeps, later_keeps, or_else_keeps, limit_keeps}
use Rattle.buffer_parts.specs.Lemmas.Stages.{nothing_keeps}
use Rattle.layout_laws.proofs.Lemmas.Rules.{Limits, NestRelated, IsClosed}
use Rattle.layout_laws.proofs.Lemmas.Substitutions.{IsSubstituted}
use Rattle.layout_laws.proofs.Lemmas.Positionings.{IsPositioned}
use Rattle.layout_laws.proofs.Lemmas.Nested.{nested_keep_parts}
use Rattle.layout_laws.proofs.Lemmas.Ligatures.{items_between_components, ligated_cut, ligated_events}
use Rattle.layout_laws.proofs.Lemmas.LigatureLengths.{AreFound, match_found, found_between, ligated_length}
use Rattle.layout_laws.proofs.BreakLemmas.Singles.{components_long}

-- of a rule at a cut, with no other limits
abbrev pub by_parts : Limits
by_parts = record {
  Index = Unit {0};
  Holds = λ i c o p. OutcomeKeepsParts o (length (whole c));
  limit = λ i c. c.max_len;
  scratch_flags = λ i c. c.scratch_flags;
  budget = λ i c. c.max_ops;
}

nested_keeps : (nest : Option (ℕ → Action)) (records : List SequenceLookupRecord) (ps : List ℕ) (end : ℕ) (c : Cut) → NestRelated by_parts nest → OutcomeKeepsParts (cut_after_match (each_nested nest records c ps end)) (length (whole c))
nested_keeps None records ps end c k = nested_keep_parts (λ n d. Passes []) [] c ps end (λ n d. pass_keeps (length (whole d)))
nested_keeps (Some act) records ps end c k = nested_keep_parts act records c ps end (λ n d. k n tt d)

closed_by_parts : IsClosed by_parts
closed_by_parts = record {
  passes = λ i c. pass_keeps (length (whole c));
  attempts = λ i back ahead c. attempt_keeps back ahead c;
  either = λ i c o p second third f g. or_else_keeps (length (whole c)) o second f g;
  breaks = λ i from to c o p f. later_keeps (length (whole c)) (Break from to ∷ []) o (λ level. break_keeps level from to (length (whole c))) f;
  nested = λ i nest records ps end c k. nested_keeps nest records ps end c k;
}

-- ---- as many items

-- with no event, with a break, or with one that is requested, as many items are left
still_acts : (c d : Cut) → length (whole d) ≡ length (whole c) → OutcomeKeepsParts (Acts d []) (length (whole c))
still_acts c d e level = subst (λ (n : ℕ). AreKept level [] (length (whole c)) n) (sym e) (nothing_keeps level (length (whole c)))

broken_acts : (from to : ℕ) (c d : Cut) → length (whole d) ≡ length (whole c) → OutcomeKeepsParts (Acts d (Break from to ∷ [])) (length (whole c))
broken_acts from to c d e level = subst (λ (n : ℕ). AreKept level (Break from to ∷ []) (length (whole c)) n) (sym e) (break_keeps level from to (length (whole c)))

strictly_broken_acts : (from to : ℕ) (c d : Cut) → length (whole d) ≡ length (whole c) → OutcomeKeepsParts (Acts d (StrictBreak from to ∷ [])) (length (whole c))
strictly_broken_acts from to c d e level =
    let n = length (whole c) in
    subst (λ (m : ℕ). AreKept level (StrictBreak from to ∷ []) n m) (sym e) (plain_is_kept level (StrictBreak from to ∷ []) n n tt tt refl)

one_long : (f : Item → Item) (ys : List Item) → length (map f (take 1 ys)) + length (drop 1 ys) ≡ length ys
one_long f [] = omega arith
one_long f (y ∷ ys) = omega arith

one_length : (gdef : GlyphDefinition) (glyph : ℕ) (c : Cut) → length (whole (cut_with_substitute gdef glyph c)) ≡ length (whole c)
one_length gdef glyph c =
    let f : Item → Item = substituted_item gdef glyph in
    omega (arith, one_long f c.rest, length-append c.front c.rest, length-append (c.front ++ map f (take 1 c.rest)) (drop 1 c.rest), length-append c.front (map f (take 1 c.rest)))

put_length : (gdef : GlyphDefinition) (glyph : ℕ) (c : Cut) → length (whole (cut_with_substitute_kept gdef glyph c)) ≡ length (whole c)
put_length gdef glyph c =
    let f : Item → Item = substituted_item gdef glyph in
    omega (arith, one_long f c.rest, length-append c.front c.rest, length-append c.front (map f (take 1 c.rest) ++ drop 1 c.rest), length-append (map f (take 1 c.rest)) (drop 1 c.rest))

one_keeps : (gdef : GlyphDefinition) (o : Option ℕ) → RuleKeepsParts (single_substitution gdef o)
one_keeps gdef None c = pass_keeps (length (whole c))
one_keeps gdef (Some glyph) c = limit_keeps 1 (length (whole c)) c (Acts (cut_with_substitute gdef glyph c) []) (still_acts c (cut_with_substitute gdef glyph c) (one_length gdef glyph c))

drawn_keeps : (gdef : GlyphDefinition) (glyphs : List ℕ) → RuleKeepsParts (drawn_alternate gdef glyphs)
drawn_keeps gdef glyphs c =
    let o : Option ℕ = slice_get glyphs (next_random c.random % length glyphs) in
    later_keeps (length (whole c)) (Break 0 (length (whole c)) ∷ []) (single_substitution gdef o (record c { random = next_random c.random })) (λ level. break_keeps level 0 (length (whole c)) (length (whole c))) (one_keeps gdef o (record c { random = next_random c.random }))

-- ---- more items, and fewer

-- there is an item at a cut
at_some : (c : Cut) (x : Item) → first_of c.rest ≡ Some x → 1 ≤ length c.rest
at_some c x e = by_rest c.rest e
  where
    by_rest : (ys : List Item) → first_of ys ≡ Some x → 1 ≤ length ys
    by_rest [] f = cc
    by_rest (y ∷ ys) f = omega arith

drop_long : (ys : List Item) → length (drop 1 ys) ≡ length ys - 1
drop_long [] = refl
drop_long (y ∷ ys) = omega arith

several_length : (gdef : GlyphDefinition) (glyphs : List ℕ) (x : Item) (c : Cut) → first_of c.rest ≡ Some x → length (whole (cut_with_multiple gdef glyphs c)) ≡ length (whole c) - 1 + length glyphs
several_length gdef glyphs x c there =
    let made : length (multiplied_item gdef glyphs (first_of c.rest)) ≡ length glyphs = ap (λ (o : Option Item). length (multiplied_item gdef glyphs o)) there ∙ components_long gdef x 0 glyphs in
    omega (arith, made, at_some c x there, drop_long c.rest, length-append c.front c.rest, length-append (c.front ++ multiplied_item gdef glyphs (first_of c.rest)) (drop 1 c.rest), length-append c.front (multiplied_item gdef glyphs (first_of c.rest)))

several_keeps : (gdef : GlyphDefinition) (glyphs : List ℕ) (x : Item) (c : Cut) → 0 < length glyphs → first_of c.rest ≡ Some x → OutcomeKeepsParts (multiple_substitution gdef glyphs c) (length (whole c))
several_keeps gdef glyphs x c some there = limit_keeps (length glyphs) (length (whole c)) c (Acts (cut_with_multiple gdef glyphs c) (Replace (length c.front) 1 (length glyphs) ∷ [])) (λ level.
    subst (λ (n : ℕ). AreKept level (Replace (length c.front) 1 (length glyphs) ∷ []) (length (whole c)) n) (sym (several_length gdef glyphs x c there))
    (replacements_keep_parts level (length c.front) (length glyphs) (length (whole c)) (omega (arith, at_some c x there, length-append c.front c.rest)) some))

one_less : (at n : ℕ) → at < n → (if nat_lt at n then n - 1 else n) ≡ n - 1
one_less at n lt = grind (arith, nat_tests, common_steps)

none_keeps : (x : Item) (c : Cut) → first_of c.rest ≡ Some x → OutcomeKeepsParts (deletion c) (length (whole c))
none_keeps x c there level =
    let before = length-append c.front c.rest in
    let after : length (c.front ++ drop 1 c.rest) ≡ length (whole c) - 1 = omega (arith, before, at_some c x there, drop_long c.rest, length-append c.front (drop 1 c.rest)) in
    plain_is_kept level (neighbours_flagged c ∷ Delete (length c.front) ∷ []) (length (whole c)) (length (c.front ++ drop 1 c.rest)) tt tt (one_less (length c.front) (length (whole c)) (omega (arith, before, at_some c x there)) ∙ sym after)

deletions_are : (at n : ℕ) (places : List ℕ) → gone at n places ≡ ligature_deletions at n places
deletions_are at n [] = refl
deletions_are at n (i ∷ places) = ap (λ (es : List Event). Replace (at + i - n) 1 0 ∷ es) (deletions_are at (n + 1) places)

ligature_keeps : (gdef : GlyphDefinition) (glyph end : ℕ) (others : List ℕ) (x : Item) (c : Cut) → first_of c.rest ≡ Some x → AreFound 1 end others (length c.rest) → OutcomeKeepsParts (ligature_substitution gdef glyph (0 ∷ others) end c) (length (whole c))
ligature_keeps gdef glyph end others x c there found = limit_keeps (1 + length (items_between_components (0 ∷ others) c)) (length (whole c)) c (Acts (ligated_cut gdef glyph (0 ∷ others) end c) (ligated_events (0 ∷ others) end c)) (λ level.
    let at : ℕ = length c.front in
    let within : at + end ≤ length (whole c) = omega (arith, found.within (at_some c x there), length-append c.front c.rest) in
    subst (λ (es : List Event). AreKept level (Merge InList at (at + end) ∷ es) (length (whole c)) (length (whole (ligated_cut gdef glyph (0 ∷ others) end c)))) (sym (deletions_are at 0 others))
    (subst (λ (n : ℕ). AreKept level (Merge InList at (at + end) ∷ ligature_deletions at 0 others) (length (whole c)) n) (sym (ligated_length gdef glyph end others x c there found))
    (ligatures_keep_parts InList level at end others (length (whole c)) within (found_between 0 1 end others (omega arith) found.indices_rise))))

-- ---- all rules

pub substituted_by_parts : IsSubstituted by_parts
substituted_by_parts = record {
  closed = closed_by_parts;
  one = λ i gdef glyph c. one_keeps gdef (Some glyph) c;
  drawn = λ i gdef glyphs c. drawn_keeps gdef glyphs c;
  several = λ i gdef glyph next more x c there. several_keeps gdef (glyph ∷ next ∷ more) x c (omega arith) there;
  none = λ i x c there. none_keeps x c there;
  ligature = λ i a glyph end tests x c there found. ligature_keeps a.font.gdef glyph end (indices (answers_of (own_search a c.rest) tests) 1 c.rest) x c there (match_found (answers_of (own_search a c.rest) tests) 1 end c.rest found);
  there = λ i gdef glyph ahead back c. broken_acts (length c.front - back) (length c.front + ahead) c (cut_with_substitute_kept gdef glyph c) (put_length gdef glyph c);
}

past_length : (n : ℕ) (ps : List Position) (c : Cut) → length (whole (cut_with_positions n ps c)) ≡ length (whole c)
past_length n ps c = ap (λ (xs : List Item). length xs) (past_left n c)

pub positioned_by_parts : IsPositioned by_parts
positioned_by_parts = record {
  closed = closed_by_parts;
  placed = λ i n ps c. still_acts c (cut_with_positions n ps c) (past_length n ps c);
  broken = λ i n back ahead ps c. broken_acts (length c.front - back) (length c.front + ahead) c (cut_with_positions n ps c) (past_length n ps c);
  strictly_broken = λ i n ahead ps c. strictly_broken_acts (length c.front) (length c.front + ahead) c (cut_with_positions n ps c) (past_length n ps c);
  attached = λ i near n back ahead ps c. broken_acts (length c.front - back) (length c.front + ahead) c (record (cut_with_positions n ps c) { scratch_flags = with_attachment_flag near c.scratch_flags }) (past_length n ps c);
}
