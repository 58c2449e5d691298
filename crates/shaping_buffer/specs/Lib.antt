pub use Rattle.buffer_common.specs as buffer_common
pub use Rattle.buffer_core.specs as buffer_core
pub use Rattle.buffer_glyphs.specs as buffer_glyphs
pub use Rattle.buffer_tags.specs as buffer_tags
pub use Rattle.buffer_unicode.specs as buffer_unicode
pub use Rattle.buffer_unicode_tables.specs as buffer_unicode_tables
pub use Rattle.buffer_wrappers.specs as buffer_wrappers
