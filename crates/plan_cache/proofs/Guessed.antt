-- A text whose direction and script are guessed.
use Rattle.std.proofs.Common.{ℕ, ◌≡◌, ◌≢◌, ◌==◌, false, true, List, [], length, get_or, refl, sym, ap, subst, ◌∙◌}
use Rattle.std.specs.Prelude.{Option, Some, None}
use Rattle.shape_pipeline.specs.buffer_common.declared.direction.Direction.{Direction}
use Rattle.shape_pipeline.specs.buffer_common.declared.direction.Direction.TheVariants.{Invalid, LeftToRight, RightToLeft, TopToBottom, BottomToTop}
use Rattle.shape_pipeline.specs.buffer_common.declared.script.Script.{Script}
use Rattle.shape_pipeline.specs.buffer_common.declared.tag.Tag.{Tag}
use Rattle.shape_pipeline.specs.buffer_core.Segment.{after_guess_segment_properties, direction_of, first_script, guessed_direction, guessed_script, with_segment}
use Rattle.shape_pipeline.specs.buffer_core.Sides.{Sides, all_glyphs}
use Rattle.shape_pipeline.specs.buffer_glyphs.Parts.{or}
use Rattle.shape_pipeline.specs.buffer_glyphs.declared.info.hb_glyph_info_t.{hb_glyph_info_t}
use Rattle.shape_pipeline.specs.buffer_tags.declared.feature.Feature.{Feature}
use Rattle.shape_pipeline.specs.buffer_wrappers.Wrappers.{IsText}
use Rattle.shape_pipeline.specs.script_plan.Fits.{script_or_unknown}
use Rattle.plan_cache.specs.declared.cached.CachedPlan.{CachedPlan}
use Rattle.plan_cache.specs.Cache.{Cache, EndsServing, IsAfter, ServesText}

or_again : {X : Type 0} (a b : Option X) → or (or a b) b ≡ or a b
or_again (Some x) b = refl
or_again None (Some y) = refl
or_again None None = refl

script_direction : (d : Direction) (script : Option Script) → d ≡ direction_of script → guessed_direction d script ≡ d
script_direction Invalid script e = sym e
script_direction LeftToRight script e = refl
script_direction RightToLeft script e = refl
script_direction TopToBottom script e = refl
script_direction BottomToTop script e = refl

direction_again : (d : Direction) (script : Option Script) → guessed_direction (guessed_direction d script) script ≡ guessed_direction d script
direction_again Invalid script = script_direction (direction_of script) script refl
direction_again LeftToRight script = refl
direction_again RightToLeft script = refl
direction_again TopToBottom script = refl
direction_again BottomToTop script = refl

-- a second guess changes nothing
guessed_twice : (s : Sides) → after_guess_segment_properties (after_guess_segment_properties s) ≡ after_guess_segment_properties s
guessed_twice s =
    let script = guessed_script s in let direction = guessed_direction s.direction script in
    ap (λ x. with_segment (guessed_direction direction x) x s) (or_again s.script (first_script (all_glyphs s))) ∙ ap (λ d. with_segment d script s) (direction_again s.direction script)

pub guessed_again : (s t : Sides) → t ≡ after_guess_segment_properties s → after_guess_segment_properties t ≡ t
guessed_again s t is = ap after_guess_segment_properties is ∙ guessed_twice s ∙ sym is

-- a text stays one
pub text_guessed : (s t : Sides) → t ≡ after_guess_segment_properties s → IsText s → IsText t
text_guessed s t is text = subst IsText (sym is) (record { closed = text.closed; unrefused = text.unrefused; characters = text.characters })

module _ (tags : List ℕ → List Tag) (features : List Feature) (s : Sides) where
  -- a plan serves a text where it serves the text as it was guessed, and the other way round
  serves_text : (k : CachedPlan) → ServesText tags features (after_guess_segment_properties s) k → ServesText tags features s k
  serves_text k serves =
      let same = sym (guessed_twice s) in
      record {
        fits = record { direction = ap (λ (x : Sides). x.direction) same ∙ serves.fits.direction; script = ap (λ (x : Sides). script_or_unknown x.script) same ∙ serves.fits.script };
        languages = serves.languages;
        features = serves.features;
      }

  serves_guessed : (k : CachedPlan) → ServesText tags features s k → ServesText tags features (after_guess_segment_properties s) k
  serves_guessed k serves =
      let same = guessed_twice s in
      record {
        fits = record { direction = ap (λ (x : Sides). x.direction) same ∙ serves.fits.direction; script = ap (λ (x : Sides). script_or_unknown x.script) same ∙ serves.fits.script };
        languages = serves.languages;
        features = serves.features;
      }

  after_text : (old new : Cache) → IsAfter tags features (after_guess_segment_properties s) old new → IsAfter tags features s old new
  after_text old new after = record {
    hit = λ i is. after.hit i (record { within = is.within; serves = λ d. serves_guessed (get_or old.plans i d) (is.serves d); last = λ j d from to serves. is.last j d from to (serves_text (get_or old.plans j d) serves) });
    miss = λ none.
        let is = after.miss (λ j d within serves. none j d within (serves_text (get_or old.plans j d) serves)) in
        record { plan = is.plan; serves = serves_text is.plan is.serves; is = is.is };
  }

  ends_text : (plans : List CachedPlan) → EndsServing tags features (after_guess_segment_properties s) plans → EndsServing tags features s plans
  ends_text plans ends = record { before = ends.before; plan = ends.plan; is = ends.is; serves = serves_text ends.plan ends.serves }

-- the cache after a text as it was guessed is the cache after the text
pub after_guessed : (tags : List ℕ → List Tag) (features : List Feature) (s t : Sides) (old new : Cache) → t ≡ after_guess_segment_properties s → IsAfter tags features t old new → IsAfter tags features s old new
after_guessed tags features s t old new is after = after_text tags features s old new (subst (λ x. IsAfter tags features x old new) is after)

pub ends_guessed : (tags : List ℕ → List Tag) (features : List Feature) (s t : Sides) (plans : List CachedPlan) → t ≡ after_guess_segment_properties s → EndsServing tags features t plans → EndsServing tags features s plans
ends_guessed tags features s t plans is ends = ends_text tags features s plans (subst (λ x. EndsServing tags features x plans) is ends)
