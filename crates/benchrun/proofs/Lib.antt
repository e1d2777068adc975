-- What the opening leaves, and that all requests that are ready are served.
pub mod Serving
pub mod Opening
