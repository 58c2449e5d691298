pub use Rattle.buffer_common.specs as buffer_common
pub use Rattle.buffer_core.specs as buffer_core
pub use Rattle.buffer_glyphs.specs as buffer_glyphs
pub use Rattle.buffer_properties.specs as buffer_properties
pub use Rattle.buffer_stages.specs as buffer_stages
pub use Rattle.buffer_tags.specs as buffer_tags
pub use Rattle.buffer_unicode_tables.specs as buffer_unicode_tables
pub use Rattle.buffer_wrappers.specs as buffer_wrappers
pub use Rattle.layout_face.specs as layout_face
pub use Rattle.script_dispatch.specs as script_dispatch
pub use Rattle.script_plan.specs as script_plan
pub use Rattle.shape_fallback.specs as shape_fallback
pub use Rattle.shape_normalize.specs as shape_normalize
pub mod Budget
pub mod Chains
pub mod Shaping
pub mod Limits
pub mod Characters
pub mod Masks
pub mod Glyphs
pub mod KnownGlyphs
pub mod Positioning
pub mod Endings
pub mod Reading
pub mod ReadingLaws
pub mod Shaped
pub mod Plans
pub mod Results
pub mod Laws
pub use Rattle.script_dispatch.specs.Dispatch
