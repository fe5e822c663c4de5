pub mod Formulas
pub mod March
pub mod OneAnswer
