use Rattle.std.proofs.Common.{◌≡◌, ◌++◌, ◌∙◌, List, [], ◌∷◌, length, refl, ℕ, rules, append_assoc, sym, ap}
use Rattle.std.proofs.lemmas.List.{append-nil}
use Rattle.std.proofs.lemmas.Str.{chars-nil, chars_past_char, IsUtf8-past_char}
use Rattle.std.specs.Str.{chars}
use Rattle.buffer_unicode_tables.specs.Tables.{Tables}
use Rattle.buffer_unicode_tables.specs.Texts.{full_text}
use Rattle.shape_premises.proofs.equivalence.full_text.Goals as goal

pub loop-u-preserved : goal.loop-u-preserved
loop-u-preserved c =
    let s = c.in-Some.ensures.steps in
    let inv = c.loop-u.invariant in
    record {
      can_next = search rules;
      finite = tt;
      utf8 = IsUtf8-past_char _ _ _ inv.utf8 s.0;
      done = rw (c.in_ok-expand.ensures, append_assoc) (rw (chars_past_char _ _ _ inv.utf8 s.0) at inv.done);
    }

empty : (bs : List ℕ) → length bs ≡ 0 → bs ≡ []
empty [] e = refl
empty (b ∷ bs) e = cc

ended : (t : Tables) (whole bs us : List ℕ) → whole ++ full_text t (chars bs) ≡ us → bs ≡ [] → whole ≡ us
ended t whole bs us e none = sym (append-nil whole) ∙ (sym (ap (λ cs. whole ++ full_text t cs) (ap chars none ∙ chars-nil)) ∙ e)

pub returns-clause-whole : goal.returns-clause-whole
returns-clause-whole c = ended c.args.tables.now _ _ _ c.loop-u.invariant.done (empty _ c.in-None.ensures.steps.0.0)
