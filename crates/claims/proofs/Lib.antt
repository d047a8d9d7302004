-- Claims: the theorem. Opens: demand 1. Demands: demands 2 and 3. Names: names apart over the described table. Placing: ask 3.
-- Declared: ask 5. Once: ask 7. Apart: ask 8. Carried: calls under a ceiling, or lent a list. Origins: ask 12. Ceiling: ask 13.
-- CutCall, Cut, CutForC: ask 14. Program: what the program prints.
pub mod Opens
pub mod Names
pub mod Demands
pub mod Placing
pub mod Declared
pub mod Once
pub mod Apart
pub mod Carried
pub mod Origins
pub mod Ceiling
pub mod CutCall
pub mod Cut
pub mod CutForC
pub mod Program
pub mod Claims
