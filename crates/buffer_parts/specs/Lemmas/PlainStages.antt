-- Stages and rules that keep the parts of a text whatever its clusters are.
use Rattle.std.proofs.Common.{ℕ, ◌≡◌, Bool, true, false, if◌then◌else◌, List, [], ◌∷◌, length, map, Ok, Err, sym, subst, ◌∙◌}
use Rattle.std.specs.Prelude.{slice_range}
use Rattle.std.proofs.lemmas.List.{length-map}
use Rattle.std.proofs.lemmas.List.Sorted.{length_permutation}
use Rattle.buffer_glyphs.specs.declared.level.BufferClusterLevel.{BufferClusterLevel}
use Rattle.buffer_glyphs.specs.declared.cause.ShapeCause.{ShapeCause}
use Rattle.buffer_glyphs.specs.Items.{Item}
use Rattle.buffer_glyphs.specs.Events.{Event}
use Rattle.buffer_core.specs.Readings.{View, Read, Reading, Stage, always, and_then, as_it_is, with_events}
use Rattle.buffer_glyphs.specs.Rewriting.{Arrangement, shifted_event, and_arranged}
use Rattle.buffer_stages.specs.Rewriting.{by_syllable, each_rewritten, in_syllables, within}
use Rattle.buffer_stages.specs.Stages.{with_items_mapped}
use Rattle.buffer_stages.specs.SyllableBuffers.{with_rule}
use Rattle.buffer_stages.specs.SyllableLaws.{IsPermuted, numbers_of}
use Rattle.buffer_stages.specs.Lemmas.Numbers.{syllables_permute}
use Rattle.buffer_parts.specs.Plainly.{ArePlainlyKept, AreSteady}
use Rattle.buffer_parts.specs.Lemmas.Keeping.{plain_is_kept}
use Rattle.buffer_parts.specs.Lemmas.Plainly.{both_steady, plainly_in_turn, steady_kept}
use Rattle.buffer_parts.specs.PlainStages.{KeepsPlainly}
use Rattle.buffer_parts.specs.StageLaws.{PlainStagesKeepParts}
use Rattle.buffer_parts.specs.Lemmas.Stages.{at_read, both_read}
use Rattle.buffer_parts.specs.Lemmas.Steady.{shifted_steady}

pub plain_stages_keep_parts : PlainStagesKeepParts
plain_stages_keep_parts stage p = record {
  parts = λ v r level e. let k = p v r level e in plain_is_kept level (r.events level) (length v.items) (length r.view.items) k.plain k.giving k.counted;
  unturned = λ v r level mono e. (p v r level e).unturned;
}

-- what a read leaves of n glyphs
abbrev pub ReadsPlainly : ℕ → Read → BufferClusterLevel → Type 0
ReadsPlainly n r level = ArePlainlyKept (r.events level) n (length r.view.items)

pub ok_plainly : (n : ℕ) (s r : Read) (level : BufferClusterLevel) → ReadsPlainly n s level → ◌≡◌ {A = Reading} (Ok s) (Ok r) → ReadsPlainly n r level
ok_plainly n s r level p e = at_read (λ q. ReadsPlainly n q level) s r e p

-- a read where a test holds, else a refusal
pub limited_plainly : (t : Bool) (cause : ShapeCause) (n : ℕ) (s r : Read) (level : BufferClusterLevel) → ReadsPlainly n s level → ◌≡◌ {A = Reading} (if t then Ok s else Err cause) (Ok r) → ReadsPlainly n r level
limited_plainly true cause n s r level p e = ok_plainly n s r level p e
limited_plainly false cause n s r level p e = cc

pub always_plainly : (f : View → Read) → ((v : View) (level : BufferClusterLevel) → ReadsPlainly (length v.items) (f v) level) → KeepsPlainly (always f)
always_plainly f p v r level e = ok_plainly (length v.items) (f v) r level (p v level) e

pub same_plainly : KeepsPlainly as_it_is
same_plainly v r level e = ok_plainly (length v.items) (with_events [] v) r level (steady_kept [] (length v.items) tt) e

pub then_plainly : (s t : Stage) → KeepsPlainly s → KeepsPlainly t → KeepsPlainly (λ v. and_then (s v) t)
then_plainly s t p q v r level e =
    let two = both_read (s v) t r e in
    subst (λ (w : Read). ReadsPlainly (length v.items) w level) two.both
    (plainly_in_turn (two.first.events level) (two.second.events level) (length v.items) (length two.first.view.items) (length two.second.view.items) (p v two.first level two.first_is) (q two.first.view two.second level two.second_is))

-- one of two stages
pub either_plainly : (s t : Stage) → KeepsPlainly s → KeepsPlainly t → (b : Bool) → KeepsPlainly (λ v. if b then s v else t v)
either_plainly s t p q true = p
either_plainly s t p q false = q

-- as many items, with events that leave as many glyphs
pub even_plainly : (es : List Event) (v w : View) (level : BufferClusterLevel) → AreSteady es → length w.items ≡ length v.items → ReadsPlainly (length v.items) (with_events es w) level
even_plainly es v w level p e = subst (λ (n : ℕ). ArePlainlyKept es (length v.items) n) (sym e) (steady_kept es (length v.items) p)

-- each item changed by itself
pub mapped_plainly : (k : Item → Item) → KeepsPlainly (always (with_items_mapped k))
mapped_plainly k = always_plainly (with_items_mapped k) (λ v level. even_plainly [] v (record v { items = map k v.items }) level tt (length-map v.items k))

-- ---- rules for syllables

-- a rule whose events leave as many glyphs
abbrev pub IsSteady : Arrangement → Type 0
IsSteady r = AreSteady r.events

pub within_steady : (rule : List Item → Arrangement) (from to : ℕ) (xs : List Item) → ((ys : List Item) → IsSteady (rule ys)) → IsSteady (within from to rule xs)
within_steady rule from to xs p = shifted_steady from (rule (slice_range xs from to)).events (p (slice_range xs from to))

pub then_steady : (r : Arrangement) (rule : List Item → Arrangement) → IsSteady r → IsSteady (rule r.items) → IsSteady (and_arranged r rule)
then_steady r rule p q = both_steady r.events (rule r.items).events p q

pub permuted_even : (xs : List Item) (r : Arrangement) → IsPermuted xs r → length r.items ≡ length xs
permuted_even xs r p = sym (length-map r.items (λ (x : Item). x.number)) ∙ length_permutation (numbers_of xs) (numbers_of r.items) p ∙ length-map xs (λ (x : Item). x.number)

-- a rule that permutes all items, with events that leave as many glyphs
pub rule_plainly : (rule : List Item → Arrangement) → ((ys : List Item) → IsSteady (rule ys)) → ((ys : List Item) → IsPermuted ys (rule ys)) → KeepsPlainly (always (with_rule rule))
rule_plainly rule p q = always_plainly (with_rule rule) (λ v level. even_plainly (rule v.items).events v (record v { items = (rule v.items).items }) level (p v.items) (permuted_even v.items (rule v.items) (q v.items)))

pub each_steady : (rule : List Item → Arrangement) → ((ys : List Item) → IsSteady (rule ys)) → (xss : List (List Item)) → IsSteady (each_rewritten rule xss)
each_steady rule p [] = tt
each_steady rule p (xs ∷ xss) = both_steady (rule xs).events (map (shifted_event (length (rule xs).items)) (each_rewritten rule xss).events) (p xs) (shifted_steady (length (rule xs).items) (each_rewritten rule xss).events (each_steady rule p xss))

-- each syllable rewritten by itself
pub syllables_plainly : (rule : List Item → Arrangement) → ((ys : List Item) → IsSteady (rule ys)) → ((ys : List Item) → IsPermuted ys (rule ys)) → KeepsPlainly (always (with_rule (by_syllable rule)))
syllables_plainly rule p q = rule_plainly (by_syllable rule) (λ ys. each_steady rule p (in_syllables ys)) (syllables_permute rule q)
