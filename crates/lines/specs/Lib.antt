pub mod Decimal
pub mod Line
pub mod Grammar
pub mod Reading
pub mod Printed
