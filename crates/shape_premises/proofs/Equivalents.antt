-- Texts with the same characters of each class are equivalent.
use Rattle.std.proofs.Common.{ℕ, ◌↔◌, IsTrue, List}
use Rattle.buffer_unicode_tables.specs.Expansion.{EndWithin}
use Rattle.buffer_unicode_tables.specs.Lawful.{IsLawful}
use Rattle.buffer_unicode_tables.specs.Tables.{Tables, class_of, split_of}
use Rattle.buffer_unicode_tables.specs.Tests.{has_same_classes}
use Rattle.buffer_unicode_tables.specs.Texts.{AreEquivalent, full_text}
use Rattle.buffer_unicode_tables.proofs.Decisions.{agree_tests, classes_agree}
use Rattle.buffer_unicode_tables.proofs.Orders.{classes_from_order, order_from_classes}
use Rattle.buffer_properties.proofs.Preserved.{equivalence_is_one_order}

pub same_classes_are_equivalent : (t : Tables) (us vs : List ℕ) → EndWithin (split_of t) 8 → IsLawful t → IsTrue (has_same_classes (class_of t) (full_text t us) (full_text t vs)) ↔ AreEquivalent t us vs
same_classes_are_equivalent t us vs ends lawful =
    let one = equivalence_is_one_order t ends lawful us vs in
    let xs = full_text t us in
    let ys = full_text t vs in
    (λ h. one.1 (order_from_classes (class_of t) xs ys (classes_agree (class_of t) xs ys h)), λ e. agree_tests (class_of t) xs ys (classes_from_order (class_of t) xs ys (one.0 e)))
