pub mod Rules
pub mod LineLaws
pub mod FigureLaws
