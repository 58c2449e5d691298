use Rattle.std.proofs.Common.{rules, ◌≡◌, map, fold, sym}
use Rattle.std.specs.Int.RustNames.{bit_or}
use Rattle.layout_map_features.specs.Fields.{global_bit, kept_fields}
use Rattle.layout_map_features.specs.Requests.{merged_requests}
use Rattle.layout_map_features.proofs.Rising.{wanted_rise}
use Rattle.layout_map.specs.Features.{feature_with, is_wanted, wanted_requests}
use Rattle.layout_map.proofs.Apart.{features_apart}
use Rattle.layout_map.proofs.Compiling.{compiled_is}
use Rattle.layout_map.proofs.Flagless.{flagless}
use Rattle.layout_map.proofs.Sorted.{features_rise}
use Rattle.layout_map.proofs.builder.hb_ot_map_builder_t.compile.Goals as goal

pub invariant_of-result : goal.invariant_of-result
invariant_of-result c =
    let tables = c.args.self.now.tables in
    let r : c.in_ok-requests.requests.items ≡ merged_requests c.self.inside.requests.items = search rules in
    let w : c.in_ok-wanted.wanted.items ≡ wanted_requests tables c.in_ok-requests.requests.items = search rules in
    let k : c.in_ok-kept.kept.items ≡ kept_fields c.in_ok-wanted.wanted.items = search rules in
    let f : c.in_ok-features.features.items ≡ map (λ k. feature_with tables k.request k.field) c.in_ok-kept.kept.items = rw (← c.self.view_is) (rw c.deref-4.ensures.value at c.in_ok-features.ensures) in
    let m : c.global_mask.result ≡ fold (λ mask k. bit_or mask k.field.default_mask) global_bit c.in_ok-kept.kept.items = rw c.deref-11.ensures.value at c.global_mask.ensures in (
      features_rise tables c.in_ok-wanted.wanted.items c.in_ok-kept.kept.items c.in_ok-features.features.items
          (wanted_rise (is_wanted tables) c.self.inside.requests.items c.in_ok-requests.requests.items c.in_ok-wanted.wanted.items r w) k f,
      flagless c.in_ok-wanted.wanted.items c.in_ok-kept.kept.items c.global_mask.result k m,
      features_apart tables c.in_ok-wanted.wanted.items c.in_ok-kept.kept.items c.in_ok-features.features.items k f,
      rw c.deref-12.ensures.value at c.new.ensures,
    )

pub returns : goal.returns
returns c =
    let tables = c.args.self.now.tables in
    let r : c.in_ok-requests.requests.items ≡ merged_requests c.args.self.now.requests = search rules in
    let w : c.in_ok-wanted.wanted.items ≡ wanted_requests tables c.in_ok-requests.requests.items = search rules in
    let k : c.in_ok-kept.kept.items ≡ kept_fields c.in_ok-wanted.wanted.items = search rules in
    let f : c.in_ok-features.features.items ≡ map (λ k. feature_with tables k.request k.field) c.in_ok-kept.kept.items = rw (← c.self.view_is) (rw c.deref-4.ensures.value at c.in_ok-features.ensures) in
    let m : c.global_mask.result ≡ fold (λ mask k. bit_or mask k.field.default_mask) global_bit c.in_ok-kept.kept.items = rw c.deref-11.ensures.value at c.global_mask.ensures in
    sym (compiled_is c.args.self.now c.in_ok-requests.requests.items c.in_ok-wanted.wanted.items c.in_ok-kept.kept.items c.in_ok-features.features.items
    c.global_mask.result _ _ r w k f m (rw (c.deref-5.ensures.value, c.deref-6.ensures.value, c.deref-7.ensures.value) at c.in_ok-gsub.ensures) (rw (c.deref-8.ensures.value, c.deref-9.ensures.value, c.deref-10.ensures.value) at c.in_ok-gpos.ensures))
